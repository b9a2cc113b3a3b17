-- Which blocks of the file remain in memory over calls that need no room.
use Rattle.std.proofs.Common.{◌≡◌, ◌≢◌, ◌∙◌, ◌+◌, ℕ, List, Option, None, refl, sym, ap, arith, subst, inl, inr}
use Rattle.std.specs.Prelude.{OnErr, OnOk, Result, Ok, Err}
use Rattle.std.proofs.lemmas.Bool.{cases_eq}
use Rattle.geos_terms.specs.declared.name.Name.{Name}
use Rattle.geos_terms.specs.declared.name.Owner.TheVariants.{Vm}
use Rattle.geos_terms.specs.declared.refusal.Refusal.{Refusal}
use Rattle.geos_terms.specs.Edits.{Edit}
use Rattle.geos_terms.specs.Names.{mem}
use Rattle.block_handles.specs.Change.{after_write, with_lock_more, with_locks, without}
use Rattle.block_handles.specs.Layout.{IsLaidOut}
use Rattle.block_handles.specs.Names.{IsHandle, slot_of}
use Rattle.block_handles.specs.Store.{Store, IsBlock, IsThere, block_at, locks_of}
use Rattle.block_handles.proofs.Laws.{handle_of_there, with_block-other}
use Rattle.block_handles.proofs.Layouts.{SameShape, there_of_size, with_locks-shape}
use Rattle.block_handles.proofs.Writes.{after_write-shape}
use Rattle.vm_blocks.specs.Bring.{Drops}
use Rattle.vm_blocks.specs.View.{vm_slot}
use Rattle.vm_blocks.proofs.Slots.{slot-is}
use Rattle.vm_blocks.proofs.Tables.{handle-or}
use Rattle.chunk_calls.specs.Edits.{Changes}
use Rattle.chunk_calls.specs.Heaps.{Rechunks}
use Rattle.chunk_calls.proofs.Named.{slot_of-past}
use Rattle.chunk_calls.proofs.Regrown.{rechunked-other, rechunked-there}
use Rattle.geos_kernel.specs.Kernel.{Remain}
use Rattle.geos_kernel.proofs.Listed.{apart}

module _ (s t : Store) where
  pub same-remain : (but : ℕ) → t ≡ s → Remain s t but
  same-remain but same h p ne there = subst (λ u. IsThere u (vm_slot h)) (sym same) there

  -- where each block has the size that it had
  pub shape-remain : IsLaidOut s → SameShape s t → Remain s t 0
  shape-remain laid shape h p ne there = there_of_size t (vm_slot h) (omega (arith, (laid.sized (vm_slot h) there).0, shape.sizes (vm_slot h)))

  -- where a count of locks has changed
  pub locks-remain : (slot n : ℕ) → IsLaidOut s → IsThere s slot → t ≡ with_locks s slot n → Remain s t 0
  locks-remain slot n laid there is = shape-remain laid (subst (SameShape s) (sym is) (with_locks-shape s slot n laid there))

  pub lock-remain : {E : Type 0} (slot : ℕ) (r : Result (Unit {0}) E) → IsLaidOut s → OnOk r (IsThere s slot)
      → OnOk r (t ≡ with_lock_more s slot) → OnErr r (t ≡ s) → Remain s t 0
  lock-remain slot (Ok done) laid there ok err = locks-remain slot (locks_of s slot + 1) laid there ok
  lock-remain slot (Err why) laid there ok err = same-remain 0 err

  -- where bytes were written
  pub written-remain : (at : ℕ) (ws : List ℕ) → IsLaidOut s → t ≡ after_write s at ws → Remain s t 0
  written-remain at ws laid is = shape-remain laid (subst (SameShape s) (sym is) (after_write-shape at ws s))

  -- where the chunks of a block have changed
  pub rechunked-remain : (slot : ℕ) (cs : List (Option (List ℕ))) (k : ℕ) → IsThere s slot → Rechunks s t slot cs k → Remain s t 0
  rechunked-remain slot cs k there r h p ne was = elim (cases_eq (vm_slot h) slot) [
    | inl same ↦ subst (IsThere t) (sym same) (rechunked-there s t slot there cs k r)
    | inr other ↦ subst IsBlock (sym (rechunked-other s t slot there cs k r (vm_slot h) other)) was
  ]

  pub changes-remain : {A : Type 0} (edit : List (Option (List ℕ)) → Edit A) (name : Name) (r : Result A Refusal)
      → IsThere s (slot_of name) → Changes edit s t name r → Remain s t 0
  changes-remain edit name (Ok answer) there c = rechunked-remain (slot_of name) _ _ there c.1
  changes-remain edit name (Err why) there c = same-remain 0 c.1

  -- where a block of global memory went
  pub freed-remain : {E : Type 0} (h : ℕ) (r : Result (Unit {0}) E) → IsLaidOut s → OnOk r (IsThere s (slot_of (mem h)))
      → OnOk r (t ≡ without s (slot_of (mem h))) → OnErr r (t ≡ s) → Remain s t 0
  freed-remain h (Ok done) laid there ok err = λ k p ne was.
      let handle : IsHandle h = handle_of_there s s (mem h) refl laid there in
      subst IsBlock (sym (ap (λ u. block_at u (vm_slot k)) ok ∙ with_block-other s (slot_of (mem h)) None 0 (vm_slot k)
      (λ e. apart h k handle (sym e)))) was
  freed-remain h (Err why) laid there ok err = same-remain 0 err

  -- where one of the file went
  pub dropped-remain : {E : Type 0} (P : Type 0) (h : ℕ) (r : Result (Unit {0}) E) → OnOk r (Drops s t h) → OnErr r (P × (t ≡ s)) → Remain s t h
  dropped-remain P h (Ok done) drops err = λ k p ne was. subst IsBlock (sym (drops.others (vm_slot k) (other k p ne))) was
    where
      other : (k : ℕ) → IsHandle k → k ≢ h → vm_slot k ≢ vm_slot h
      other k p ne e = elim (handle-or {X = ℕ} 0 h) [
        | inl q ↦ (let here = slot-is k p in let there = slot-is h q in let some = p.0 in let least = q.0 in
            ne (omega (arith, here, there, some, least, e)))
        | inr past ↦ (let here = slot-is k p in let there = slot_of-past Vm h past in let most = p.1 in let some = p.0 in
            absurd (omega (arith, here, there, most, some, e)))
      ]
  dropped-remain P h (Err why) drops err = same-remain h err.1
