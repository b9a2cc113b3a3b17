-- A block that is made does its row.
use Rattle.std.proofs.Common.{◌≡◌, ℕ, zero, suc, ◌<◌, ◌≤◌, List, [], length, Option, Some, None, true, false, refl, sym, ap, subst, arith}
use Rattle.std.specs.Prelude.{Result, Ok, Err, IfOk, OnErr, is_none, is_some, nat_lt}
use Rattle.std.specs.List.{position_or_len}
use Rattle.std.proofs.lemmas.List.Sums.{position_or_len_is}
use Rattle.geos_terms.specs.Block.{chunks}
use Rattle.geos_terms.specs.Names.{vm}
use Rattle.geos_terms.specs.declared.refusal.Refusal.TheVariants as refusal
use Rattle.geos_calls.specs.Directories.{VmBlock}
use Rattle.geos_calls.specs.Effects.{Choice}
use Rattle.geos_calls.specs.Handles.{at_handle, lowest_of}
use Rattle.geos_calls.specs.Legal.{IsLegalListed}
use Rattle.geos_calls.specs.Memory.{Memory, listed_at, with_listed}
use Rattle.geos_calls.specs.Tight.{is_tight}
use Rattle.geos_calls.specs.VmCalls.{makes_listed, new_listed}
use Rattle.geos_calls.proofs.LegalBlocks.{new_heap-legal}
use Rattle.geos_calls.proofs.LegalDirectories.{added-legal}
use Rattle.geos_calls.proofs.Laws.{entry-other}
use Rattle.block_handles.specs.Names.{IsHandle}
use Rattle.block_handles.specs.Store.{Store, block_at}
use Rattle.vm_file.specs.Device.{Medium}
use Rattle.vm_blocks.specs.declared.entries.Held.{Held}
use Rattle.vm_blocks.specs.View.{VmState, bytes_read, held_at, vm_slot, with_held}
use Rattle.vm_blocks.specs.declared.error.NewError.{NewError}
use Rattle.vm_blocks.specs.declared.error.NewError.TheVariants as error
use Rattle.vm_blocks.specs.Blocks.{Adds, AllListed, IsLowestUnlisted, LacksRoomForNew, new_held}
use Rattle.vm_blocks.specs.Refused.{of_new}
use Rattle.vm_blocks.specs.Tied.{IsTied}
use Rattle.vm_blocks.specs.Room.{LacksRoom}
use Rattle.vm_blocks.specs.Matches.{IsListedAs}
use Rattle.vm_blocks.specs.FileOf.{IsMemoryOf}
use Rattle.vm_blocks.specs.DoesRow.{DoesRow}
use Rattle.vm_blocks.proofs.BringRows.{chosen}
use Rattle.vm_blocks.proofs.Changed.{memory-entry, memory-thins}
use Rattle.vm_blocks.proofs.Files.{IsListedIn}
use Rattle.vm_blocks.proofs.Tables.{table-own}
use Rattle.vm_blocks.proofs.Thinning.{tied-thins}
use Rattle.vm_blocks.proofs.Tightness.{tight-vm}

-- The lowest handle

module _ {X : Type 0} (xs : List (Option X)) (long : length xs ≡ 1024) where
  pub lowest-some : (h : ℕ) → IsHandle h → at_handle None xs h ≡ None → ((k : ℕ) → IsHandle k → k < h → is_none (at_handle None xs k) ≡ false)
      → lowest_of xs ≡ Some h
  lowest-some zero p none lower = absurd (omega (arith, p.0))
  lowest-some (suc i) p none lower =
      let lt : i < 1024 = omega (arith, p.1) in
      let first : position_or_len is_none xs ≡ i = position_or_len_is is_none xs i None (omega (arith, long, p.1))
      (λ j below. lower (suc j) (omega arith, omega (arith, below, p.1)) (omega (arith, below))) (λ inside. ap is_none none) in
      let inside : nat_lt i (length xs) ≡ true = rw long (grind (arith, lt)) in
      rw (first, inside) refl

  pub lowest-none : ((k : ℕ) → IsHandle k → is_none (at_handle None xs k) ≡ false) → lowest_of xs ≡ None
  lowest-none all =
      let last : position_or_len is_none xs ≡ 1024 = position_or_len_is is_none xs 1024 None (omega (arith, long))
      (λ j below. all (suc j) (omega arith, omega (arith, below))) (λ inside. absurd (omega (arith, inside, long))) in
      rw (last, long) refl

-- The rows

module _ {D : Type 0} (medium : Medium D) (v : VmState D) (s : Store) (tied : IsTied medium v s) where
  listed-none : (h : ℕ) → IsHandle h → held_at v h ≡ None → (m : Memory) → IsMemoryOf medium v s m → listed_at m h ≡ None
  listed-none h p none m is = subst (λ o. IsListedAs (medium.honest v.file.device) (bytes_read medium.image v.file h) o
      (block_at s (vm_slot h)) (listed_at m h)) none (is.file.cur.each h p)

  some-listed : (m : Memory) → IsMemoryOf medium v s m → (k : ℕ) → IsHandle k → is_some (held_at v k) ≡ true
      → is_none (at_handle None m.file.cur.blocks k) ≡ false
  some-listed m is k p some = on (held_at v k) (listed_at m k) some (is.file.cur.each k p)
    where
      on : (o : Option Held) (l : Option VmBlock) → is_some o ≡ true → IsListedAs (medium.honest v.file.device)
          (bytes_read medium.image v.file k) o (block_at s (vm_slot k)) l → is_none l ≡ false
      on None l t is = absurd cc
      on (Some e) l t is = in_memory (block_at s (vm_slot k)) l is
        where
          in_memory : (b : Option _) (l : Option VmBlock) → IsListedAs (medium.honest v.file.device) (bytes_read medium.image v.file k) (Some e) b l
              → is_none l ≡ false
          in_memory (Some b) l is = ap is_none is
          in_memory None None is = absurd is
          in_memory None (Some l) is = refl

  lowest-told : (m : Memory) → IsMemoryOf medium v s m → (h : ℕ) → IsLowestUnlisted v h → lowest_of m.file.cur.blocks ≡ Some h
  lowest-told m is h low = lowest-some m.file.cur.blocks is.file.cur.handles h low.handle (listed-none h low.handle low.free m is)
      (λ k p less. some-listed m is k p (low.lower k p less))

  -- each handle is listed
  pub new-full : (uid n : ℕ) → AllListed v → DoesRow medium (makes_listed [] uid n) (Err refusal.NoHandle) v s v s
  new-full uid n all m is =
      let none = lowest-none m.file.cur.blocks is.file.cur.handles (λ k p. some-listed m is k p (all k p)) in
      (chosen false false [], record { given = λ g. refl; device = λ g t. absurd cc }, m, is, rw none refl)

  abbrev cramped : Choice
  cramped = record { first_room = false; last_room = true; device = false; unsure = false; memory = false; given = [] }

  -- no stretch of the region has room
  pub new-crowded : (uid n h : ℕ) (t : Store) → IsLowestUnlisted v h → LacksRoom v s t (vm h) 64
      → DoesRow medium (makes_listed [] uid n) (Err refusal.NoRoom) v s v t
  new-crowded uid n h t low lacks m is =
      let now = memory-thins medium v s t m is h tied lacks.thins in
      let tight : is_tight m (vm h) 64 ≡ true = tight-vm medium v t m (tied-thins medium v s t h tied lacks.thins)
      now h 64 low.handle lacks.none lacks.no_room.crowded in
      (cramped, record { given = λ g. refl; device = λ g t. absurd cc }, m, now, rw (lowest-told m is h low, tight) refl)

  -- the block was made
  module _ (uid n h : ℕ) (w : VmState D) (t : Store) (word : uid < 65536) (few : n ≤ 65535) (adds : Adds v w s t uid n h) where
    memory-added : (m : Memory) → IsMemoryOf medium v s m → IsMemoryOf medium (with_held v h (Some (new_held uid))) t
        (with_listed m h (Some (new_listed uid n)))
    memory-added m is =
        let p = adds.lowest.handle in
        let x : VmState D = with_held v h (Some (new_held uid)) in
        let held : held_at x h ≡ Some (new_held uid) = table-own None (Some (new_held uid)) v.entries h tied.long p in
        let new = adds.is in
        let spells : Some (new_listed uid n) ≡ Some
        (let y : VmBlock = record {
          uid = uid;
          marked = true;
          block =
              record { locks = new.block.locks; heap = record { chunks = chunks new.block.bytes; size = length new.block.bytes } };
        } in y) =
        (let locks = sym new.locks in let cs = sym new.chunks in let size = sym new.long in
        λ k. Some (record { uid = uid; marked = true; block = record { locks = locks k; heap = record { chunks = cs k; size = size k } } })) in
        let own : IsListedIn medium x t h (Some (new_listed uid n)) =
        subst (λ o. IsListedAs (medium.honest x.file.device) (bytes_read medium.image x.file h) o (block_at t (vm_slot h)) (Some (new_listed uid n)))
        (sym held)
        (subst (λ o. IsListedAs (medium.honest x.file.device) (bytes_read medium.image x.file h) (Some (new_held uid)) o (Some (new_listed uid n)))
        (sym new.at) spells) in
        let legal : IsLegalListed (new_listed uid n) = record { uid = word; block = record { heap = new_heap-legal; few = few } } in
        let cur = m.file.cur in
        memory-entry medium v s t m is h p tied adds.keeps x refl (λ k ne. entry-other None (Some (new_held uid)) v.entries h k ne)
        cur.map_block cur.map_group cur.map_item (Some (new_listed uid n)) (is.file.cur.map_block, is.file.cur.map_group, is.file.cur.map_item) own
        (added-legal IsLegalListed (λ (l : VmBlock). l.uid) cur is.file.legal.cur h (new_listed uid n) legal (listed-none h p adds.lowest.free m is))

    pub new-done : DoesRow medium (makes_listed [] uid n) (Ok h) v s w t
    new-done m is =
        let low = lowest-told m is h adds.lowest in (
          chosen false false [],
          record { given = λ g. refl; device = λ g t. absurd cc },
          with_listed m h (Some (new_listed uid n)),
          subst (λ x. IsMemoryOf medium x t (with_listed m h (Some (new_listed uid n)))) (sym adds.state) (memory-added m is),
          rw low refl,
        )

-- the same of what a call ensures
pub new-does : {D : Type 0} (medium : Medium D) (v w : VmState D) (s t : Store) (uid n : ℕ) (r : Result ℕ NewError)
    → IsTied medium v s → uid < 65536 → n ≤ 65535
    → IfOk r (Adds v w s t uid n) → (r ≡ Err error.NoHandle → AllListed v) → (r ≡ Err error.NoRoom → LacksRoomForNew v s t)
    → (r ≡ Err error.NoHandle → t ≡ s) → OnErr r (w ≡ v)
    → DoesRow medium (makes_listed [] uid n) (of_new r) v s w t
new-does medium v w s t uid n (Ok h) tied word few adds full crowded stays same = new-done medium v s tied uid n h w t word few adds
new-does medium v w s t uid n (Err error.NoHandle) tied word few adds full crowded stays same =
    subst (λ x. DoesRow medium (makes_listed [] uid n) (Err refusal.NoHandle) v s x t) (sym same)
    (subst (λ u. DoesRow medium (makes_listed [] uid n) (Err refusal.NoHandle) v s v u) (sym (stays refl))
    (new-full medium v s tied uid n (full refl)))
new-does medium v w s t uid n (Err error.NoRoom) tied word few adds full crowded stays same =
    let lacks = crowded refl in
    subst (λ x. DoesRow medium (makes_listed [] uid n) (Err refusal.NoRoom) v s x t) (sym same)
    (new-crowded medium v s tied uid n lacks.h t lacks.lowest lacks.lacks)
