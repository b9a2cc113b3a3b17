-- What edits of a named block keep of all others.
use Rattle.std.proofs.Common.{◌≡◌, ◌≢◌, ℕ, ◌<◌, true, false, List, Option, Bool, refl, sym, ap, ◌∙◌, arith, inl, inr, subst}
use Rattle.std.specs.Prelude.{Result, Ok, Err}
use Rattle.geos_terms.specs.declared.name.Name.{Name}
use Rattle.geos_terms.specs.declared.refusal.Refusal.{Refusal}
use Rattle.geos_terms.specs.Edits.{Edit}
use Rattle.block_handles.specs.Change.{LockedStay}
use Rattle.block_handles.specs.Layout.{IsLaidOut}
use Rattle.block_handles.specs.Names.{slot_of}
use Rattle.block_handles.specs.Store.{Store, IsBlock, block_at, locks_in, locks_of, place_of}
use Rattle.geos_terms.specs.Block.{handle_word}
use Rattle.geos_terms.specs.Heap.{IsHeap}
use Rattle.block_handles.specs.Store as store
use Rattle.vm_blocks.specs.View.{VmState, held_at, vm_slot}
use Rattle.vm_blocks.specs.Bring.{KeptOrGoes}
use Rattle.vm_blocks.specs.Room.{StaysOrGoes, Thins, is_idle_in, own_handle}
use Rattle.vm_blocks.proofs.Slots.{idle}
use Rattle.chunk_calls.specs.Edits.{Changes, Grows, DiscardsAndEdits, Carries}
use Rattle.chunk_calls.specs.Heaps.{HoldsHeap, Rechunks, chunks_at, size_at}
use Rattle.chunk_calls.specs.Others.{KeepsBut, KeepsOthers}
use Rattle.chunk_calls.proofs.Regrown.{rechunked-other, rechunked-there, rechunked-locks, rechunked-heap, rechunked-handle}

-- a block that is locked is no one that goes
pub goes-free : {D : Type 0} (v : VmState D) (s t : Store) (but slot : ℕ) → 0 < locks_of s slot → KeptOrGoes v s t but slot
    → (block_at t slot ≡ block_at s slot) × (place_of t slot ≡ place_of s slot)
goes-free v s t but slot some (inl u) = (u.0, u.1 some)
goes-free v s t but slot some (inr g) =
    let i = idle (held_at v g.h) (block_at s (vm_slot g.h)) g.idle in
    let none : locks_of s slot ≡ 0 = ap (locks_of s) g.slot_is ∙ ap locks_in i.there ∙ i.free in
    absurd (omega (arith, some, none))

module _ {D : Type 0} (v : VmState D) where
  -- every other block that is locked is as it was, where it was
  pub others-locked : (s t : Store) (name : Name) → KeepsBut v s t name → (slot : ℕ) → slot ≢ slot_of name
      → 0 < locks_of s slot → (block_at t slot ≡ block_at s slot) × (place_of t slot ≡ place_of s slot)
  others-locked s t name keeps slot ne some = goes-free v s t (own_handle name) slot some (keeps.each slot ne)

  pub others-stay : (s t : Store) (name : Name) → KeepsBut v s t name → LockedStay s t (slot_of name)
  others-stay s t name keeps slot ne some = (others-locked s t name keeps slot ne some).1

  -- first some were discarded
  module _ (s mid t : Store) (but slot : ℕ) where
    pub kept-later : StaysOrGoes v s mid but slot → KeptOrGoes v mid t but slot → KeptOrGoes v s t but slot
    kept-later (inl p) (inl q) = inl (q.0 ∙ p.0, λ some. q.1 (subst (λ o. 0 < locks_in o) (sym p.0) some) ∙ p.1)
    kept-later (inr g) (inl q) = inr (record { h = g.h; handle = g.handle; slot_is = g.slot_is; other = g.other; idle = g.idle; gone = q.0 ∙ g.gone })
    kept-later (inr g) (inr n) = inr (record { h = g.h; handle = g.handle; slot_is = g.slot_is; other = g.other; idle = g.idle; gone = n.gone })
    kept-later (inl p) (inr g) =
        let same : block_at mid (vm_slot g.h) ≡ block_at s (vm_slot g.h) = subst (λ i. block_at mid i ≡ block_at s i) g.slot_is p.0 in
        inr (record {
          h = g.h;
          handle = g.handle;
          slot_is = g.slot_is;
          other = g.other;
          idle =
              subst (λ o. is_idle_in (held_at v g.h) o ≡ true) same g.idle;
          gone = g.gone;
        })

  pub keeps-later : (s mid t : Store) (name : Name) → Thins v s mid (own_handle name) → block_at mid (slot_of name) ≡ block_at s (slot_of name)
      → KeepsOthers v mid t name → KeepsOthers v s t name
  keeps-later s mid t name thins own keeps = record {
    others = record {
      each = λ slot ne. kept-later s mid t (own_handle name) slot (thins.each slot) (keeps.others.each slot ne);
      laid = keeps.others.laid;
      len = keeps.others.len ∙ thins.len;
    };
    there = keeps.there;
    locks = keeps.locks ∙ ap locks_in own;
    heap = keeps.heap;
    handle = keeps.handle ∙ ap (λ o. handle_word (store.bytes_in o)) own;
  }

  module _ (s t : Store) (name : Name) (laid : IsLaidOut s) (holds : HoldsHeap s name) where
    -- nothing has changed
    pub same-keeps : t ≡ s → KeepsOthers v s t name
    same-keeps same = subst (λ u. KeepsOthers v s u name) (sym same) (record {
      others = record { each = λ slot ne. inl (refl, λ some. refl); laid = laid; len = refl };
      there = holds.there;
      locks = refl;
      heap = holds.heap;
      handle = refl;
    })

    -- the block has other chunks
    pub rechunked-keeps : (cs : List (Option (List ℕ))) (n : ℕ) → Rechunks s t (slot_of name) cs n → KeepsOthers v s t name
    rechunked-keeps cs n r = record {
      others = record {
        each = λ slot ne. inl (rechunked-other s t (slot_of name) holds.there cs n r slot ne, λ some. r.stay slot ne some);
        laid =
            r.laid laid;
        len = r.len;
      };
      there = rechunked-there s t (slot_of name) holds.there cs n r;
      locks = rechunked-locks s t (slot_of name) holds.there cs n r;
      heap = rechunked-heap s t (slot_of name) holds.there cs n r;
      handle = rechunked-handle s t (slot_of name) holds.there cs n r;
    }

  module _ {A : Type 0} (edit : List (Option (List ℕ)) → Edit A) (s t : Store) (name : Name) (laid : IsLaidOut s) (holds : HoldsHeap s name) where
    pub changes-keeps : (r : Result A Refusal) → Changes edit s t name r → KeepsOthers v s t name
    changes-keeps (Ok answer) h = rechunked-keeps s t name laid holds (edit (chunks_at s name)).chunks (size_at s name) h.1
    changes-keeps (Err why) h = same-keeps s t name laid holds h.1

    grows-keeps : (r : Result A Refusal) → Grows edit s t name r → KeepsOthers v s t name
    grows-keeps (Ok answer) h = rechunked-keeps s t name laid holds (edit (chunks_at s name)).chunks _ h.1
    grows-keeps (Err why) h = same-keeps s t name laid holds h.1

  module _ {A : Type 0} (edit : List (Option (List ℕ)) → Edit A) (s t : Store) (name : Name) (laid : IsLaidOut s) (holds : HoldsHeap s name) where
    pub comes-keeps : (r : Result A Refusal) → DiscardsAndEdits v edit s t name r → KeepsOthers v s t name
    comes-keeps r c =
        let still : HoldsHeap c.mid name = record {
          there = subst IsBlock (sym c.own) holds.there;
          heap =
              subst (λ o. IsHeap (store.bytes_in o)) (sym c.own) holds.heap;
        } in
        keeps-later s c.mid t name c.thins c.own (grows-keeps edit c.mid t name c.thins.laid still r c.grows)

    pub carries-keeps : (grows : Bool) (r : Result A Refusal) → Carries grows v edit s t name r → KeepsOthers v s t name
    carries-keeps true r h = comes-keeps r h
    carries-keeps false r h = changes-keeps edit s t name laid holds r h
