-- How a new block becomes a heap.
use Rattle.std.proofs.Common.{◌≡◌, ℕ, ◌+◌, ◌<◌, List, [], ◌∷◌, length, set, get_or, Option, Some, None, refl, sym, ap, ◌∙◌, arith, subst}
use Rattle.std.specs.Prelude.{Result, Ok, Err}
use Rattle.std.proofs.lemmas.List.{get_or-set_same, length-replicate, set-set}
use Rattle.block_handles.specs.declared.error.HandleError.{HandleError}
use Rattle.block_handles.specs.declared.error.HandleError.TheVariants as handle
use Rattle.block_handles.specs.Calls.{Makes}
use Rattle.block_handles.specs.Change.{with_bytes, with_lock_more, new_block}
use Rattle.block_handles.specs.Layout.{IsLaidOut}
use Rattle.block_handles.specs.Names.{IsHandle, slot_of}
use Rattle.block_handles.proofs.Laws.{laid-with_bytes, laid-with_locks, slot_of-small}
use Rattle.block_handles.specs.Store.{Block, Store, block_at, IsBlock, IsThere, bytes_of, place_of, locks_of, locks_in, bytes_in}
use Rattle.geos_terms.specs.declared.name.Name.{Name}
use Rattle.geos_terms.specs.Block as block
use Rattle.geos_terms.specs.Heap.{IsHeap}
use Rattle.vm_blocks.specs.Room.{DiscardsAndMakes}
use Rattle.vm_blocks.specs.View.{VmState}
use Rattle.chunk_calls.proofs.Lent.{with_bytes-set}
use Rattle.geos_kernel.specs.Kernel.{MakesHeap, MakesRoomFor}
use Rattle.geos_kernel.proofs.Locks.{LocksSlot}

-- a lock of a block that is there and not locked is done
lock-more : (old new : Store) (slot : ℕ) (r : Result (Unit {0}) HandleError) → LocksSlot old new slot r → IsThere old slot
    → locks_of old slot ≡ 0 → new ≡ with_lock_more old slot
lock-more old new slot (Ok done) facts there unlocked = facts.1
lock-more old new slot (Err handle.BadHandle) (a, b, bad, full, err) there unlocked = absurd (bad.0 refl there)
lock-more old new slot (Err handle.Locked) (a, b, bad, full, err) there unlocked = absurd (omega (arith, full.0 refl, unlocked))

module _ (old made : Store) (slot : ℕ) (m : Makes old made slot 64) (small : slot < length old.blocks) where
  made-block : block_at made slot ≡ new_block 64
  made-block = ap (λ bs. get_or bs slot None) m.blocks ∙ get_or-set_same old.blocks slot (new_block 64) None small

  pub made-there : IsThere made slot
  made-there = subst IsBlock (sym made-block) tt

  pub made-length : length (bytes_of made slot) ≡ 64
  made-length = ap (λ o. length (bytes_in o)) made-block ∙ length-replicate {A = ℕ} 64 0

  module _ (ws : List ℕ) (long : length ws ≡ 64) where
    abbrev mid : Store
    mid = with_bytes made slot ws

    abbrev holding : ℕ → Option Block
    holding locks = Some (record { locks = locks; bytes = ws })

    -- the new block has these bytes, and is not locked yet
    written : mid.blocks ≡ set old.blocks slot (holding 0)
    written = with_bytes-set made.blocks slot ws made-there (long ∙ sym made-length)
        ∙ ap (λ o. set made.blocks slot (holding (locks_in o))) made-block ∙ ap (λ bs. set bs slot (holding 0)) m.blocks
        ∙ set-set old.blocks slot (new_block 64) (holding 0)

    held : block_at mid slot ≡ holding 0
    held = ap (λ bs. get_or bs slot None) written ∙ get_or-set_same old.blocks slot (holding 0) None small

    -- the bytes were made a heap, and its first lock succeeds
    pub made-heap : (new : Store) (r : Result (Unit {0}) HandleError) → IsHeap ws → (h : ℕ) → block.handle_word ws ≡ h
        → block.chunks ws ≡ None ∷ None ∷ [] → LocksSlot mid new slot r → MakesHeap old new slot h
    made-heap new r heap h handle chunks facts =
        let there : IsThere mid slot = subst IsBlock (sym held) tt in
        let e = lock-more mid new slot r facts there (ap locks_in held) in
        let last : Some (record { locks = locks_of mid slot + 1; bytes = bytes_of mid slot }) ≡ holding 1 =
        ap (λ o. Some (record { locks = locks_in o + 1; bytes = bytes_in o })) held in
        record {
          bytes = ws;
          blocks = ap (λ (t : Store). t.blocks) e ∙ ap (λ o. set mid.blocks slot o) last ∙ ap (λ bs. set bs slot (holding 1)) written
              ∙ set-set old.blocks slot (holding 0) (holding 1);
          stay = λ j ne some. ap (λ (t : Store). place_of t j) e ∙ m.stay j ne some;
          len = ap (λ (t : Store). t.len) e ∙ m.len;
          laid = subst IsLaidOut (sym e) (laid-with_locks mid (laid-with_bytes made m.laid slot ws) slot there (locks_of mid slot + 1));
          heap = heap;
          chunks = chunks;
          handle = handle;
          long = long;
        }

-- room was made for a block, and it became a heap that is locked once
module _ {D : Type 0} (v : VmState D) (old made : Store) (name : Name) (q : IsHandle name.h) (room : DiscardsAndMakes v old made name 64) where
  abbrev slot : ℕ
  slot = slot_of name

  small : slot < length room.mid.blocks
  small = omega (arith, slot_of-small name q, room.thins.laid.slots)

  pub room-there : IsThere made slot
  room-there = made-there room.mid made slot room.makes small

  pub room-length : length (bytes_of made slot) ≡ 64
  room-length = made-length room.mid made slot room.makes small

  pub room-heap : (new : Store) (ws : List ℕ) (r : Result (Unit {0}) HandleError) → length ws ≡ 64 → IsHeap ws
      → block.handle_word ws ≡ name.h → block.chunks ws ≡ None ∷ None ∷ [] → LocksSlot (with_bytes made slot ws) new slot r
      → MakesRoomFor v old new name
  room-heap new ws r long heap handle chunks facts =
      record {
        mid = room.mid;
        thins = room.thins;
        made = made-heap room.mid made slot room.makes small ws long new
            r heap name.h handle chunks facts;
      }
