-- A commit that succeeded does its row.
use Rattle.std.proofs.Common.{◌≡◌, ℕ, ◌<◌, List, Option, Some, None, true, false, refl, sym, ap, ◌∙◌, subst, arith}
use Rattle.std.specs.Prelude.{option_map}
use Rattle.geos_calls.specs.Directories.{VmBlock, KeptBlock, kept_block, idle_block, with_each}
use Rattle.geos_calls.specs.Handles.{at_handle}
use Rattle.geos_calls.specs.Memory.{Memory, listed_at}
use Rattle.geos_calls.specs.VmCalls.{pair_to_keep, written_directory}
use Rattle.geos_calls.specs.VmFile as model_file
use Rattle.geos_calls.proofs.HandleLists.{entry-each}
use Rattle.geos_calls.proofs.LegalDirectories.{loaded-legal}
use Rattle.std.proofs.lemmas.List.{length-map}
use Rattle.block_handles.specs.Names.{IsHandle}
use Rattle.block_handles.specs.Layout.{IsLaidOut}
use Rattle.block_handles.specs.Store.{Block, Store, block_at, locks_in}
use Rattle.vm_file.specs.Device.{Medium}
use Rattle.vm_file.specs.declared.commit.How.{How}
use Rattle.vm_file.specs.declared.commit.How.TheVariants.{Update, Save, Revert}
use Rattle.vm_file.specs.declared.directory.Entry.{Entry}
use Rattle.vm_file.specs.Committing.{current_after, kept_after, saved_after}
use Rattle.vm_file.specs.Contents.{Pair}
use Rattle.vm_file.specs.State.{bytes_of_block, pair_of}
use Rattle.vm_blocks.specs.declared.entries.Held.{Held}
use Rattle.vm_blocks.specs.View.{VmState, bytes_read, held_at, vm_slot}
use Rattle.vm_blocks.specs.Tied.{IsTied}
use Rattle.vm_blocks.specs.Listed.{IsListOf, NoneLocked, StoreAfter, as_held, directory_of, resident_of}
use Rattle.vm_blocks.specs.Spelled.{heap_in, heap_read}
use Rattle.vm_blocks.specs.Matches.{IsListedAs, IsStoredAs, IsPairOf, entry_at}
use Rattle.vm_blocks.specs.FileOf.{IsCurrentOf, IsMemoryOf}
use Rattle.vm_blocks.proofs.Matching.{pair-on}
use Rattle.geos_calls.specs.VmCalls.{committed}
use Rattle.vm_blocks.specs.ListedCalls.{keeper_of}
use Rattle.vm_blocks.proofs.Files.{slots-same}
use Rattle.vm_blocks.proofs.Slots.{slot-is}
use Rattle.vm_blocks.proofs.CommitRows.{blocks_now, bytes-now, entry_for, found-entry, kept-is, kept-legal}

-- What is current after a commit

-- a block of the device, listed when it was read
pub idle-away : (good : Type 0) (read : List ℕ) (e : Option Entry) (k : Option KeptBlock) → IsStoredAs good read e k
    → IsListedAs good read (option_map as_held e) None (option_map idle_block k)
idle-away fair read None k tells = ap (option_map idle_block) tells
idle-away fair read (Some e) None tells = absurd tells
idle-away fair read (Some e) (Some k) tells = record { uid = tells.uid; marked = refl; locks = refl; heap = tells.heap }

-- a block that a commit wrote and that stays in memory, or is still away
idle-kept : (good well : Type 0) (read now : List ℕ) (h : ℕ) (o : Option Held) (b : Option Block) (l : Option VmBlock)
    → (well → good) → ((e : Held) → o ≡ Some e → b ≡ None → well → now ≡ read) → locks_in b ≡ 0
    → IsListedAs good read o b l → IsListedAs well now (option_map as_held (entry_for h o b)) b (option_map idle_block (option_map kept_block l))
idle-kept fair well read now h None b l was same free tells = ap (λ x. option_map idle_block (option_map kept_block x)) tells
idle-kept fair well read now h (Some e) None None was same free tells = absurd tells
idle-kept fair well read now h (Some e) None (Some l) was same free tells =
    record {
      uid = tells.uid;
      marked = refl;
      locks = refl;
      heap =
          record { size = tells.heap.size; same = λ w. tells.heap.same (was w) ∙ ap (heap_read e.len) (sym (same e refl refl w)) };
    }
idle-kept fair well read now h (Some e) (Some b) l was same free tells =
    ap (λ x. option_map idle_block (option_map kept_block x)) tells
    ∙ (let back = sym free in λ k. Some (record { uid = e.uid; marked = false; block = record { locks = back k; heap = heap_in b.bytes } }))

-- a file after a commit that succeeded
pub record IsDone {D : Type 0} (medium : Medium D) (how : How) (v w : VmState D) (s t : Store) : Type 0 where
  pub area : w.file.area ≡ v.file.area
  pub sure : w.file.sure ≡ true
  pub current : w.file.current ≡ current_after how (directory_of v s) v.file.saved
  pub saved : w.file.saved ≡ saved_after how (directory_of v s) v.file.saved
  pub was : medium.honest w.file.device → medium.honest v.file.device
  pub pair : medium.honest w.file.device → pair_of medium.image w.file ≡ kept_after medium.image (resident_of s) how (directory_of v s) v.file
  pub lists : IsListOf w w.file.current
  pub store : StoreAfter how s t
  pub laid : IsLaidOut t
  pub free : NoneLocked s

module _ {D : Type 0} (medium : Medium D) (v w : VmState D) (s t : Store) (m : Memory) (tied : IsTied medium v s) (is : IsMemoryOf medium v s m) where
  abbrev well : Type 0
  well = medium.honest w.file.device

  module _ (how : How) (d : IsDone medium how v w s t) where
    -- the committed pair after the call
    now-pair : IsPairOf well w.file.current w.file.saved (pair_of medium.image w.file) (pair_to_keep (keeper_of how) m)
    now-pair =
        let old = kept-is medium v s m is how in
        let p = pair_to_keep (keeper_of how) m in
        let next = pair-on (medium.honest v.file.device) well d.was (current_after how (directory_of v s) v.file.saved)
        (saved_after how (directory_of v s) v.file.saved) (kept_after medium.image (resident_of s) how (directory_of v s) v.file)
        (pair_of medium.image w.file) p d.pair old in
        subst (λ x. IsPairOf well x w.file.saved (pair_of medium.image w.file) p) (sym d.current)
        (subst (λ x. IsPairOf well (current_after how (directory_of v s) v.file.saved) x (pair_of medium.image w.file) p) (sym d.saved) next)

  -- the current directory is unchanged, and blocks in memory stay there
  goes-on : (how : How) (d : IsDone medium how v w s t) → t ≡ s → w.file.current ≡ directory_of v s
      → (well → (h : ℕ) → bytes_read medium.image w.file h ≡ bytes_of_block (blocks_now medium v s m is) h)
      → (h : ℕ) → IsHandle h → IsListedAs well (bytes_read medium.image w.file h) (held_at w h) (block_at t (vm_slot h))
      (at_handle None (with_each idle_block (written_directory m)).blocks h)
  goes-on how d same current read h p =
      let held : held_at w h ≡ option_map as_held (entry_for h (held_at v h) (block_at s (vm_slot h))) = d.lists.each h p
      ∙ ap (λ x. option_map as_held (entry_at x h)) current ∙ ap (option_map as_held) (found-entry v s h p) in
      let at_h : at_handle None (with_each idle_block (written_directory m)).blocks h ≡ option_map idle_block
      (option_map kept_block (listed_at m h)) = entry-each idle_block (written_directory m).blocks h
      ∙ ap (option_map idle_block) (entry-each kept_block m.file.cur.blocks h) in
      let block : block_at t (vm_slot h) ≡ block_at s (vm_slot h) = ap (λ u. block_at u (vm_slot h)) same in
      let listed = idle-kept (medium.honest v.file.device) well (bytes_read medium.image v.file h)
      (bytes_read medium.image w.file h) h (held_at v h) (block_at s (vm_slot h)) (listed_at m h) d.was
      (λ e l none g. read g h ∙ bytes-now medium v s m is h e None p l none) (d.free h p) (is.file.cur.each h p) in
      subst (λ x. IsListedAs well (bytes_read medium.image w.file h) x (block_at t (vm_slot h))
      (at_handle None (with_each idle_block (written_directory m)).blocks h)) (sym held)
      (subst (λ x. IsListedAs well (bytes_read medium.image w.file h) (option_map as_held (entry_for h (held_at v h) (block_at s (vm_slot h)))) x
      (at_handle None (with_each idle_block (written_directory m)).blocks h)) (sym block)
      (subst (IsListedAs well (bytes_read medium.image w.file h) (option_map as_held (entry_for h (held_at v h) (block_at s (vm_slot h))))
      (block_at s (vm_slot h))) (sym at_h) listed))

  -- what the model lists after it
  now-listed : (how : How) → IsDone medium how v w s t → (h : ℕ) → IsHandle h
      → IsListedAs well (bytes_read medium.image w.file h) (held_at w h) (block_at t (vm_slot h))
      (at_handle None (with_each idle_block (pair_to_keep (keeper_of how) m).cur).blocks h)
  now-listed Update d h p = goes-on Update d d.store d.current (λ g k. ap (λ (q : Pair). bytes_of_block q.cur.blocks k) (d.pair g)) h p
  now-listed Save d h p = goes-on Save d d.store d.current (λ g k. ap (λ (q : Pair). bytes_of_block q.cur.blocks k) (d.pair g)) h p
  now-listed Revert d h p =
      let entries = (with_each idle_block m.file.saved).blocks in
      let stored = (now-pair Revert d).cur.each h p in
      let listed = idle-away well (bytes_read medium.image w.file h) (entry_at w.file.current h) (at_handle None m.file.saved.blocks h) stored in
      subst (λ x. IsListedAs well (bytes_read medium.image w.file h) x (block_at t (vm_slot h)) (at_handle None entries h)) (sym (d.lists.each h p))
      (subst (λ x. IsListedAs well (bytes_read medium.image w.file h) (option_map as_held (entry_at w.file.current h)) x (at_handle None entries h))
      (sym (d.store.none h p))
      (subst (IsListedAs well (bytes_read medium.image w.file h) (option_map as_held (entry_at w.file.current h)) None)
      (sym (entry-each idle_block m.file.saved.blocks h)) listed))

  -- blocks of global memory are as they were
  store-mem : (how : How) → StoreAfter how s t → (slot : ℕ) → slot < 1024 → block_at t slot ≡ block_at s slot
  store-mem Update same slot l = ap (λ u. block_at u slot) same
  store-mem Save same slot l = ap (λ u. block_at u slot) same
  store-mem Revert drops slot l = drops.others slot (λ h p e. omega (arith, slot-is h p, p.0, l, e))

  store-len : (how : How) → StoreAfter how s t → t.len ≡ s.len
  store-len Update same = ap (λ (u : Store). u.len) same
  store-len Save same = ap (λ (u : Store). u.len) same
  store-len Revert drops = drops.len

  module _ (how : How) (d : IsDone medium how v w s t) where
    abbrev pair_now : model_file.Pair
    pair_now = pair_to_keep (keeper_of how) m

    pub memory-committed : IsMemoryOf medium w t (committed m pair_now)
    memory-committed =
        let now = now-pair how d in
        let legal = kept-legal medium v s m is how in
        let cur : IsCurrentOf medium.image medium.honest w t (with_each idle_block pair_now.cur) = record {
          handles = length-map pair_now.cur.blocks (option_map idle_block) ∙ now.cur.handles;
          each = now-listed how d;
          map_block = now.cur.map_block ∙ sym d.lists.map_block;
          map_group = now.cur.map_group ∙ sym (ap (λ (i : ℕ × ℕ). i.0) d.lists.map_item);
          map_item = now.cur.map_item ∙ sym (ap (λ (i : ℕ × ℕ). i.1) d.lists.map_item);
        } in
        record {
          blocks = is.blocks ∙ sym (slots-same s t tied.laid d.laid (store-mem how d.store));
          file = record {
            area = is.file.area ∙ sym d.area;
            cur = cur;
            saved = now.saved;
            kept = (d.sure, now);
            legal = record { cur = loaded-legal pair_now.cur legal.0; saved = legal.1; kept = legal };
          };
          region = is.region ∙ ap (λ l. l.most) (sym (store-len how d.store));
          handles = is.handles ∙ ap (λ l. l.handles) (sym (store-len how d.store));
        }
