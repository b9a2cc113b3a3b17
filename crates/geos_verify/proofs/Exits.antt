-- In an accepted routine control comes to a RET, so no exit row has a pointer into an empty slot.
use Rattle.std.proofs.Common.{◌≡◌, ◌≤◌, ◌+◌, ℕ, zero, suc, Bool, true, false, List, [], ◌∷◌, Option, Some, None, get_or, slice_get, refl, sym, ap, ◌∙◌, inl, inr, ◌⊎◌, arith}
use Rattle.std.specs.Prelude.{◌==◌, nat_le}
use Rattle.std.specs.List.{list_any}
use Rattle.std.proofs.lemmas.Bool.{and_parts, or_parts, leb-true, eqb-true}
use Rattle.geos_opcodes.specs.declared.opcode.Opcode.{Opcode}
use Rattle.geos_opcodes.specs.declared.opcode.Opcode.TheVariants.{Setk, Setkw, Loop, Call, Jmp, Ret}
use Rattle.geos_image.specs.declared.instr.Instr.{Instr}
use Rattle.geos_image.specs.declared.row.Row.{Row}
use Rattle.geos_image.specs.declared.row.Pointer.{Pointer}
use Rattle.geos_image.specs.declared.row.SlotState.{SlotState}
use Rattle.geos_image.specs.declared.row.SlotState.TheVariants.{Empty}
use Rattle.geos_image.specs.declared.potential.Potential.{Potential}
use Rattle.geos_image.specs.declared.routine.Routine.{Routine}
use Rattle.geos_image.specs.Parts.{Parts, start_of}
use Rattle.geos_image.specs.Keys.{falls_through}
use Rattle.geos_verify.specs.Lists.{all2}
use Rattle.geos_verify.specs.declared.asked.Asked.{Asked}
use Rattle.geos_verify.specs.declared.place.Place.{Place}
use Rattle.geos_verify.specs.Rows.{slot_fits, pointer_fits, fits, bound, is_empty, leads_nowhere}
use Rattle.geos_verify.specs.Potentials.{asks, asks_setting, asks_calling, left_with, is_paid, budget_of, are_spent, pays_along}
use Rattle.geos_verify.specs.Touched.{touched_by}
use Rattle.geos_verify.specs.Rules.{HasPoint, IsAcceptable, returns, names_empty_slot, tests}
use Rattle.geos_verify.proofs.Passed.{passed}
use Rattle.geos_verify.proofs.RowsFit.{fitting, empty-at}
use Rattle.geos_verify.proofs.Passing.{neither}
use Rattle.geos_verify.proofs.Leads.{leads-along, leads-branching, may_return, begins-within, point_at}

module _ (slots wanted : List SlotState) (fit : all2 slot_fits slots wanted ≡ true) where
  one-nowhere : (p u : Option Pointer) → pointer_fits p u ≡ true → leads_nowhere slots p ≡ false → leads_nowhere wanted u ≡ false
  one-nowhere p None j e = refl
  one-nowhere None (Some u) j e = absurd cc
  one-nowhere (Some p) (Some u) j e =
      let same = eqb-true p.slot u.slot ((and_parts (p.slot == u.slot) (nat_le u.least p.least) j).0) in
      ap (λ k. is_empty (get_or wanted k Empty)) (sym same) ∙ sym (empty-at slots wanted p.slot fit) ∙ e

  all-nowhere : (ps us : List (Option Pointer)) → all2 pointer_fits ps us ≡ true → list_any (leads_nowhere slots) ps ≡ false
      → list_any (leads_nowhere wanted) us ≡ false
  all-nowhere [] [] j e = refl
  all-nowhere [] (u ∷ us) j e = absurd cc
  all-nowhere (p ∷ ps) [] j e = absurd cc
  all-nowhere (p ∷ ps) (u ∷ us) j e =
      let fits_here = and_parts (pointer_fits p u) (all2 pointer_fits ps us) j in
      let parts = or_parts (leads_nowhere slots p) (list_any (leads_nowhere slots) ps) e in
      neither (leads_nowhere wanted u) (list_any (leads_nowhere wanted) us) (one-nowhere p u fits_here.0 parts.0)
      (all-nowhere ps us fits_here.1 parts.1)

-- a row that such a row fits has no pointer into an empty slot either
clean-weaker : (r s : Row) → fits r s ≡ true → names_empty_slot r ≡ false → names_empty_slot s ≡ false
unfolding names_empty_slot
clean-weaker r s h e = let p = fitting r s h in all-nowhere r.slots s.slots p.slots r.pointers s.pointers p.pointers e

-- each edge but a LOOP's to its target leads where fewer steps are left
steps-asked : (asked : Asked) (p : Potential) → is_paid asked p ≡ true → asked.steps ≤ left_with asked.counter p
steps-asked asked p h = leb-true asked.steps (left_with asked.counter p)
    ((and_parts (nat_le asked.steps (left_with asked.counter p)) (all2 nat_le asked.coefficients p.coefficients) h).0)

fewer-along : (image : Parts) (i : Instr) (opcode : Opcode) (row : Row) (p q : Potential) → pays_along image i opcode row p q ≡ true
    → q.constant + 1 ≤ p.constant
fewer-along image i Setk row p q h = let paid = steps-asked (asks_setting i.a i.imm q) p h in omega (arith, paid)
fewer-along image i Setkw row p q h = let paid = steps-asked (asks_setting i.a (bound row i.b) q) p h in omega (arith, paid)
fewer-along image i Loop row p q h = let paid = steps-asked (asks_setting i.a 0 q) p h in omega (arith, paid)
fewer-along image i Call row p q h =
    let asked = asks_calling (budget_of image i.imm) q in
    let paid = steps-asked asked p ((and_parts (is_paid asked p) (are_spent (touched_by image i.imm) q) h).0) in
    omega (arith, paid)
fewer-along image i _ row p q h = steps-asked (asks q) p h

ends-so : (opcode : Opcode) → falls_through opcode ≡ false → (opcode ≡ Jmp) ⊎ (opcode ≡ Ret)
ends-so Ret e = inr refl
ends-so Jmp e = inl refl
ends-so _ e = absurd cc

module _ (image : Parts) (checked : IsAcceptable image) (r : ℕ) (routine : Routine) where
  -- from a place that does not return, an edge leads to a place with a lower constant
  abbrev GoesOn : Place → Type 0
  GoesOn p = (returns p.instr.opcode ≡ true) ⊎ ((to : ℕ) × (q : Place) × HasPoint image r routine to q
      × (q.potential.constant + 1 ≤ p.potential.constant))

  goes-on : (pc : ℕ) (p : Place) → HasPoint image r routine pc p → GoesOn p
  goes-on pc p has = by_test (falls_through p.instr.opcode) refl
    where
      by_ends : (p.instr.opcode ≡ Jmp) ⊎ (p.instr.opcode ≡ Ret) → GoesOn p
      by_ends (inl jump) =
          let L = leads-branching true image checked.0 checked.1 r pc routine p has Jmp jump refl in
          inr (p.instr.target, L.point, L.has, steps-asked (asks L.point.potential) p.potential L.pays)
      by_ends (inr ret) = inl (ap returns ret)

      by_test : (b : Bool) → falls_through p.instr.opcode ≡ b → GoesOn p
      by_test true e =
          let L = leads-along true image checked.0 checked.1 r pc routine p has p.instr.opcode refl e in
          inr (pc + 1, L.point, L.has, fewer-along image p.instr p.instr.opcode p.row p.potential L.point.potential L.pays)
      by_test false e = by_ends (ends-so p.instr.opcode e)

  returns-at : (n pc : ℕ) (p : Place) → HasPoint image r routine pc p → p.potential.constant ≤ n → (to : ℕ) × (q : Place)
      × HasPoint image r routine to q × (returns q.instr.opcode ≡ true)
  returns-at zero pc p has le = by_step (goes-on pc p has)
    where
      by_step : GoesOn p → (to : ℕ) × (q : Place) × HasPoint image r routine to q × (returns q.instr.opcode ≡ true)
      by_step (inl is) = (pc, p, has, is)
      by_step (inr on) = absurd (omega (arith, on.3, le))
  returns-at (suc n) pc p has le = by_step (goes-on pc p has) (λ to q there less. returns-at n to q there less)
    where
      by_step : GoesOn p → ((to : ℕ) (q : Place) → HasPoint image r routine to q → q.potential.constant ≤ n → (to : ℕ)
          × (q : Place) × HasPoint image r routine to q × (returns q.instr.opcode ≡ true))
          → (to : ℕ) × (q : Place) × HasPoint image r routine to q × (returns q.instr.opcode ≡ true)
      by_step (inl is) later = (pc, p, has, is)
      by_step (inr on) later = later on.0 on.1 on.2 (omega (arith, on.3, le))

  -- so the exit row is one that a row without such pointers fits
  pub exit-clean : slice_get image.routines r ≡ Some routine → names_empty_slot routine.exit ≡ false
  exit-clean there =
      let start = start_of image.routines r in
      let first = point_at true image r routine start checked.0 there (begins-within true image checked.0 r routine there) in
      let last = returns-at first.0.potential.constant start first.0 first.1 (omega arith) in
      let fit = (may_return true image checked.0 checked.1 r last.0 routine last.1 last.2 last.3).0 in
      clean-weaker last.1.row routine.exit fit ((passed (tests image r routine start last.0 last.1) (checked.1 r last.0 routine last.1 last.2)).1.0)
