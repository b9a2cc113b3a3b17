-- A commit does its row.
use Rattle.std.proofs.Common.{◌≡◌, None, Bool, true, false, refl, sym, ap, ◌∙◌, subst, inl, inr}
use Rattle.std.specs.Prelude.{not, nat_lt, Result, Ok, Err, OnOk, OnErr}
use Rattle.geos_terms.specs.declared.refusal.Refusal.TheVariants as refusal
use Rattle.geos_calls.specs.Effects.{effect_of, outcome}
use Rattle.geos_calls.specs.Handles.{at_handle}
use Rattle.geos_calls.specs.Legal.{ArePairs}
use Rattle.geos_calls.specs.Memory.{Memory}
use Rattle.geos_calls.specs.VmCalls.{commit, committed, faulted, pair_to_keep}
use Rattle.geos_calls.specs.VmFile as model_file
use Rattle.geos_calls.proofs.LegalDirectories.{doubted-legal}
use Rattle.geos_calls.specs.VmFile.{Kept, Sure, Unsure, VmFile, doubted}
use Rattle.block_handles.specs.Store.{Store, block_at}
use Rattle.vm_file.specs.Device.{Medium}
use Rattle.vm_file.specs.declared.commit.How.{How}
use Rattle.vm_file.specs.declared.error.CommitError.{CommitError}
use Rattle.vm_file.specs.declared.error.CommitError.TheVariants as error
use Rattle.vm_file.specs.Committing.{CommitsFile, KeepsAfter, current_after, kept_after, saved_after}
use Rattle.vm_file.specs.Contents.{Pair, listed}
use Rattle.vm_file.specs.Directories.{is_directory}
use Rattle.vm_file.specs.Kept as file
use Rattle.vm_file.specs.Kept.{SureOf, UnsureBetween, kept_of, other_pair}
use Rattle.vm_file.specs.State.{FileState, bytes_of_block, pair_of}
use Rattle.vm_blocks.specs.View.{VmState, bytes_read, held_at, vm_slot}
use Rattle.vm_blocks.specs.Tied.{IsTied}
use Rattle.vm_blocks.specs.Listed.{IsListOf, NoneLocked, StoreAfter, directory_of, resident_of}
use Rattle.vm_blocks.specs.ListedCalls.{keeper_of}
use Rattle.vm_blocks.specs.Matches.{IsPairOf, stored_pair}
use Rattle.vm_blocks.specs.FileOf.{IsKeptOf, IsMemoryOf}
use Rattle.vm_blocks.specs.DoesRow.{DoesRow}
use Rattle.vm_blocks.specs.Refused.{of_commit}
use Rattle.vm_blocks.proofs.Committed.{IsDone, memory-committed}
use Rattle.vm_blocks.proofs.CommitRows.{kept-is, kept-legal}
use Rattle.vm_blocks.proofs.CommitTests.{offered, true-or, area-test, big-test, sure-test, unsure-test}
use Rattle.vm_blocks.proofs.Matching.{directory-on, listed-on, pair-on}
use Rattle.vm_blocks.proofs.Stored.{pair-one}

-- The row's outcome by its tests

module _ (m : Memory) (how : How) where
  abbrev pair : model_file.Pair
  pair = pair_to_keep (keeper_of how) m

  went : model_file.is_unsure m.file.kept ≡ false → nat_lt m.file.area (model_file.pair_length pair) ≡ false
      → outcome (effect_of (commit (keeper_of how)) (offered false false false) m) ≡ (Ok tt, committed m pair)
  went sure fits = rw (sure, fits) refl

  doubtful : model_file.is_unsure m.file.kept ≡ true
      → outcome (effect_of (commit (keeper_of how)) (offered false false false) m) ≡ (Err refusal.Unsure, m)
  doubtful unsure = rw unsure refl

  too-big : model_file.is_unsure m.file.kept ≡ false → nat_lt m.file.area (model_file.pair_length pair) ≡ true
      → outcome (effect_of (commit (keeper_of how)) (offered false false false) m) ≡ (Err refusal.TooBig, m)
  too-big sure big = rw (sure, big) refl

  no-memory : model_file.is_unsure m.file.kept ≡ false → nat_lt m.file.area (model_file.pair_length pair) ≡ false
      → outcome (effect_of (commit (keeper_of how)) (offered true false false) m) ≡ (Err refusal.Memory, m)
  no-memory sure fits = rw (sure, fits) refl

  failed-row : (unsure : Bool) → model_file.is_unsure m.file.kept ≡ false → nat_lt m.file.area (model_file.pair_length pair) ≡ false
      → outcome (effect_of (commit (keeper_of how)) (offered false true unsure) m) ≡ (Err refusal.Disk, faulted (offered false true unsure) m pair)
  failed-row unsure sure fits = rw (sure, fits) refl

-- A state of which nothing but the device and its doubt changed

module _ {D : Type 0} (medium : Medium D) (v w : VmState D) (s : Store) (m : Memory) (is : IsMemoryOf medium v s m)
    (state : w ≡ record v { file = record v.file { device = w.file.device; sure = w.file.sure } })
    (was : medium.honest w.file.device → medium.honest v.file.device) (same : medium.honest w.file.device
    → pair_of medium.image w.file ≡ pair_of medium.image v.file) where
  abbrev now : VmState D
  now = record v { file = record v.file { device = w.file.device; sure = w.file.sure } }

  pair-same : medium.honest now.file.device → pair_of medium.image now.file ≡ pair_of medium.image v.file
  pair-same g = ap (λ (x : VmState D). pair_of medium.image x.file) (sym state) ∙ same g

  memory-doubted : (kept : Kept) → IsKeptOf medium.image medium.honest now.file kept → ArePairs kept
      → IsMemoryOf medium w s (record m { file = record m.file { kept = kept } })
  memory-doubted kept k legal = subst (λ x. IsMemoryOf medium x s (record m { file = record m.file { kept = kept } })) (sym state) (record {
    blocks = is.blocks;
    file = record {
      area = is.file.area;
      cur = record {
        handles = is.file.cur.handles;
        each = λ h p. listed-on (medium.honest v.file.device) (medium.honest now.file.device) was (bytes_read medium.image v.file h)
            (bytes_read medium.image now.file h) (held_at v h) (block_at s (vm_slot h)) (at_handle None m.file.cur.blocks h)
            (λ g. ap (λ (q : Pair). bytes_of_block q.cur.blocks h) (pair-same g)) (is.file.cur.each h p);
        map_block = is.file.cur.map_block;
        map_group = is.file.cur.map_group;
        map_item = is.file.cur.map_item;
      };
      saved = directory-on (medium.honest v.file.device) (medium.honest now.file.device) was v.file.saved
          (pair_of medium.image v.file).saved.blocks (pair_of medium.image now.file).saved.blocks m.file.saved
          (λ g. ap (λ (q : Pair). q.saved.blocks) (pair-same g)) is.file.saved;
      kept = k;
      legal = record { cur = is.file.legal.cur; saved = is.file.legal.saved; kept = legal };
    };
    region = is.region;
    handles = is.handles;
  })

-- The call

module _ {D : Type 0} (medium : Medium D) (v w : VmState D) (s t : Store) (how : How)
    (tied : IsTied medium v s) (now_tied : IsTied medium w t) (free : NoneLocked s) (cur_legal : is_directory (directory_of v s) ≡ true)
    (old_legal : is_directory v.file.saved ≡ true)
    (whole : medium.honest v.file.device
    → (listed (kept_after medium.image (resident_of s) how (directory_of v s) v.file).cur ≡ current_after how (directory_of v s) v.file.saved)
    × (listed (kept_after medium.image (resident_of s) how (directory_of v s) v.file).saved ≡ saved_after how (directory_of v s) v.file.saved)) where
  abbrev Commits : Result (Unit {0}) CommitError → Type 0
  Commits r = CommitsFile medium how (resident_of s) (directory_of v s) v.file w.file r

  abbrev Row : Result (Unit {0}) CommitError → Type 0
  Row r = DoesRow medium (commit (keeper_of how)) (of_commit r) v s w t

  same-state : w ≡ record v { file = w.file } → w.file ≡ v.file → w ≡ v
  same-state state file = state ∙ ap (λ (x : FileState D). let y : VmState D = record v { file = x } in y) file

  done-row : (done : Unit {0}) → Commits (Ok done) → IsListOf w w.file.current → StoreAfter how s t → Row (Ok done)
  done-row done c lists store m is =
      let sure : v.file.sure ≡ true = true-or v.file.sure (λ f. (let x = c.unsure.1 f in cc)) in
      let fits = area-test medium v s m is how cur_legal old_legal (λ big. (let x = c.too_big.1 (sure, big) in cc)) in
      let d : IsDone medium how v w s t = record {
        area = ap (λ (x : FileState D). x.area) c.done;
        sure = ap (λ (x : FileState D). x.sure) c.done;
        current = ap (λ (x : FileState D). x.current) c.done;
        saved = ap (λ (x : FileState D). x.saved) c.done;
        was = c.was;
        pair = λ g. c.pair (c.was g);
        lists = lists;
        store = store;
        laid = now_tied.laid;
        free = free;
      } in (
        offered false false false,
        record { given = λ g. refl; device = λ g x. absurd cc },
        committed m (pair m how),
        memory-committed medium v w s t m tied is how d,
        went m how (sure-test medium v s m is how cur_legal old_legal sure) fits,
      )

  unmoved : w ≡ v → t ≡ s → (m : Memory) → IsMemoryOf medium v s m → IsMemoryOf medium w t m
  unmoved state store m is = subst (λ x. IsMemoryOf medium x t m) (sym state) (subst (λ u. IsMemoryOf medium v u m) (sym store) is)

  unsure-row : Commits (Err error.Unsure) → w ≡ record v { file = w.file } → t ≡ s → Row (Err error.Unsure)
  unsure-row c state store m is = (
    offered false false false,
    record { given = λ g. refl; device = λ g x. absurd cc },
    m,
    unmoved (same-state state c.refused) store m is,
    doubtful m how (unsure-test medium v s m is how cur_legal old_legal (c.unsure.0 refl)),
  )

  big-row : Commits (Err error.TooBig) → w ≡ record v { file = w.file } → t ≡ s → Row (Err error.TooBig)
  big-row c state store m is =
      let big = c.too_big.0 refl in (
        offered false false false,
        record { given = λ g. refl; device = λ g x. absurd cc },
        m,
        unmoved (same-state state c.refused) store m is,
        too-big m how (sure-test medium v s m is how cur_legal old_legal big.0) (big-test medium v s m is how cur_legal old_legal big.1),
      )

  memory-row : Commits (Err error.Memory) → w ≡ record v { file = w.file } → t ≡ s → Row (Err error.Memory)
  memory-row c state store m is =
      let sure : v.file.sure ≡ true = true-or v.file.sure (λ f. (let x = c.unsure.1 f in cc)) in
      let fits = area-test medium v s m is how cur_legal old_legal (λ big. (let x = c.too_big.1 (sure, big) in cc)) in (
        offered true false false,
        record { given = λ g. refl; device = λ g x. absurd cc },
        m,
        unmoved (same-state state c.refused) store m is,
        no-memory m how (sure-test medium v s m is how cur_legal old_legal sure) fits,
      )

  -- what is in doubt after a fault
  other-told : v.file.sure ≡ true → w.file.sure ≡ false → (after : Pair)
      → KeepsAfter error.Disk after (kept_of medium.image v.file) (kept_of medium.image w.file) → other_pair medium.image w.file ≡ after
  other-told sure doubt after keeps = on keeps
    where
      old : kept_of medium.image v.file ≡ SureOf (pair_of medium.image v.file)
      old = rw sure refl

      new : kept_of medium.image w.file ≡ UnsureBetween (pair_of medium.image w.file) (other_pair medium.image w.file)
      new = rw doubt refl

      on : KeepsAfter error.Disk after (kept_of medium.image v.file) (kept_of medium.image w.file) → other_pair medium.image w.file ≡ after
      on (inl e) = absurd (let x : UnsureBetween (pair_of medium.image w.file) (other_pair medium.image w.file) ≡ SureOf
          (pair_of medium.image v.file) = sym new ∙ e ∙ old in cc)
      on (inr x) = let y : UnsureBetween (pair_of medium.image w.file) (other_pair medium.image w.file) ≡ UnsureBetween x.0 after = sym new
          ∙ x.2 in ap second y
        where
          second : file.Kept → Pair
          second (SureOf p) = p
          second (UnsureBetween p q) = q

  module _ (c : Commits (Err error.Disk)) (state : w ≡ record v { file = w.file }) (store : t ≡ s) (m : Memory) (is : IsMemoryOf medium v s m) where
    sure-then : v.file.sure ≡ true
    sure-then = true-or v.file.sure (λ f. (let x = c.unsure.1 f in cc))

    whole-state : w ≡ record v { file = record v.file { device = w.file.device; sure = w.file.sure } }
    whole-state = state ∙ ap (λ (x : FileState D). let y : VmState D = record v { file = x } in y) c.refused

    old-pair : (p : model_file.Pair) → IsPairOf (medium.honest v.file.device) v.file.current v.file.saved (pair_of medium.image v.file) p
        → IsPairOf (medium.honest w.file.device) v.file.current v.file.saved
        (pair_of medium.image (now medium v w s m is whole-state c.was (λ g. c.pair (c.was g))).file) p
    old-pair p is_p = pair-on (medium.honest v.file.device) (medium.honest w.file.device) c.was v.file.current v.file.saved
        (pair_of medium.image v.file) (pair_of medium.image (now medium v w s m is whole-state c.was (λ g. c.pair (c.was g))).file) p
        (pair-same medium v w s m is whole-state c.was (λ g. c.pair (c.was g))) is_p

    -- what is committed if the file is still sure, and if it is not
    kept-sure : w.file.sure ≡ true → (k : Kept) → IsKeptOf medium.image medium.honest v.file k
        → IsKeptOf medium.image medium.honest (now medium v w s m is whole-state c.was (λ g. c.pair (c.was g))).file k
    kept-sure sure (Sure p) k = (sure, old-pair p k.1)
    kept-sure sure (Unsure p q) k = absurd (let x : true ≡ false = sym sure-then ∙ k.0 in cc)

    new-pair : w.file.sure ≡ false → medium.honest w.file.device → pair m how ≡ stored_pair (other_pair medium.image w.file)
    new-pair doubt g =
        let fair = c.was g in
        let cur = current_after how (directory_of v s) v.file.saved in
        let saved = saved_after how (directory_of v s) v.file.saved in
        let after = kept_after medium.image (resident_of s) how (directory_of v s) v.file in
        let from : IsPairOf (Unit {0}) cur saved after (pair m how) = pair-on (medium.honest v.file.device) (Unit {0})
        (λ u. fair) cur saved after after (pair m how) (λ u. refl) (kept-is medium v s m is how) in
        let e = whole fair in
        pair-one cur saved after (pair m how) e.0 e.1 from ∙ sym (ap stored_pair (other-told sure-then doubt after (c.kept fair)))

    kept-doubted : w.file.sure ≡ false → (k : Kept) → IsKeptOf medium.image medium.honest v.file k
        → IsKeptOf medium.image medium.honest (now medium v w s m is whole-state c.was (λ g. c.pair (c.was g))).file (doubted k (pair m how))
    kept-doubted doubt (Sure p) k = (
      doubt,
      old-pair p k.1,
      λ g. new-pair doubt g
          ∙ ap (λ (x : VmState D). stored_pair (other_pair medium.image x.file)) whole-state,
    )
    kept-doubted doubt (Unsure p q) k = absurd (let x : true ≡ false = sym sure-then ∙ k.0 in cc)

    disk-memory : (b : Bool) → w.file.sure ≡ b → IsMemoryOf medium w t (faulted (offered false true (not b)) m (pair m how))
    disk-memory true sure = subst (λ u. IsMemoryOf medium w u m) (sym store)
        (memory-doubted medium v w s m is whole-state c.was (λ g. c.pair (c.was g)) m.file.kept
        (kept-sure sure m.file.kept is.file.kept) is.file.legal.kept)
    disk-memory false doubt = subst (λ u. IsMemoryOf medium w u (record m { file = record m.file { kept = doubted m.file.kept (pair m how) } }))
        (sym store)
        (memory-doubted medium v w s m is whole-state c.was (λ g. c.pair (c.was g)) (doubted m.file.kept (pair m how))
        (kept-doubted doubt m.file.kept is.file.kept)
        (doubted-legal m.file.kept (pair m how) is.file.legal.kept (kept-legal medium v s m is how)))

  disk-row : Commits (Err error.Disk) → w ≡ record v { file = w.file } → t ≡ s → Row (Err error.Disk)
  disk-row c state store m is =
      let fits = area-test medium v s m is how cur_legal old_legal (λ big. (let x = c.too_big.1 (sure-then c state store m is, big) in cc)) in (
        offered false true (not w.file.sure),
        record { given = λ g. refl; device = λ g x. c.cause g refl },
        faulted (offered false true (not w.file.sure)) m (pair m how),
        disk-memory c state store m is w.file.sure refl,
        failed-row m how (not w.file.sure) (sure-test medium v s m is how cur_legal old_legal (sure-then c state store m is)) fits,
      )

  -- whatever it answers
  pub commit-does : (r : Result (Unit {0}) CommitError) → Commits r → OnOk r (IsListOf w w.file.current)
      → OnOk r (StoreAfter how s t) → OnErr r ((w ≡ record v { file = w.file }) × (t ≡ s)) → Row r
  commit-does (Ok done) c lists store refused = done-row done c lists store
  commit-does (Err error.Unsure) c lists store refused = unsure-row c refused.0 refused.1
  commit-does (Err error.TooBig) c lists store refused = big-row c refused.0 refused.1
  commit-does (Err error.Memory) c lists store refused = memory-row c refused.0 refused.1
  commit-does (Err error.Disk) c lists store refused = disk-row c refused.0 refused.1
