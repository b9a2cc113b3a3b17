-- No image is accepted if its code has a cycle in which no LOOP may pay.
use Rattle.std.proofs.Common.{◌≡◌, ◌≢◌, ◌≤◌, ◌<◌, ℕ, zero, suc, ◌+◌, Bool, true, false, not, List, [], ◌∷◌, length, Some, None, slice_get, get_or, refl, sym, ap, ◌∙◌, subst, arith, inl, inr}
use Rattle.std.specs.Prelude.{◌&&◌, ◌==◌, nat_le, nat_lt}
use Rattle.std.specs.List.{list_any}
use Rattle.std.proofs.lemmas.Bool.{cases_lt, and_parts, or_parts, leb-true, ltb-false, eq-eqb, not-true, false≢true}
use Rattle.std.proofs.lemmas.List.{get_or-set_other, get_or_past}
use Rattle.geos_opcodes.specs.declared.opcode.Opcode.{Opcode}
use Rattle.geos_opcodes.specs.declared.opcode.Opcode.TheVariants.{Setk, Setkw, Loop, Call}
use Rattle.geos_image.specs.declared.instr.Instr.{Instr}
use Rattle.geos_image.specs.declared.row.Row.{Row}
use Rattle.geos_image.specs.declared.potential.Potential.{Potential}
use Rattle.geos_image.specs.declared.routine.Routine.{Routine}
use Rattle.geos_image.specs.declared.point.Point.{Point}
use Rattle.geos_image.specs.Keys.{branches, falls_through}
use Rattle.geos_image.specs.Parts.{Parts, start_of}
use Rattle.geos_verify.specs.Lists.{all2}
use Rattle.geos_verify.specs.Potentials.{asks_setting, budget_of, is_paid, pays_along, pays_branching, are_spent, asks_calling}
use Rattle.geos_verify.specs.Rows.{bound}
use Rattle.geos_verify.specs.Touched.{calls, touches, touched_by}
use Rattle.geos_verify.specs.declared.asked.Asked.{Asked}
use Rattle.geos_verify.specs.declared.place.Place.{Place}
use Rattle.geos_verify.specs.Places.{places}
use Rattle.geos_verify.proofs.Leads.{leads-along, leads-branching, may_begin}
use Rattle.geos_verify.proofs.Places.{item_at}
use Rattle.geos_verify.proofs.Paid.{spent-at}
use Rattle.geos_code.specs.Code.{is_loop, IsPcOf}
use Rattle.geos_counters.specs.Idle.{calls_touching, MayNotPay, LeadsIdle, IsIdleWay, IsNeverPaid}
use Rattle.geos_counters.specs.Counters.{zeros}
use Rattle.geos_potentials.specs.Accepted.{HasAccepted}
use Rattle.geos_counters.specs.Trails.{IsTrail, keeps_counter}
use Rattle.geos_code.specs.Edges.{LeadsTo}
use Rattle.geos_potentials.proofs.Accepted.{same-instr, point-of, four-at, touches-same, along-steps}
use Rattle.geos_code.proofs.Bounds.{bound-at}

-- Coefficients and steps along one edge

abbrev coefficient : Potential → ℕ → ℕ
coefficient p k = get_or p.coefficients k 0

-- the potential has each required coefficient
asked-at : (asked : Asked) (p : Potential) (k : ℕ) → is_paid asked p ≡ true → get_or asked.coefficients k 0 ≤ coefficient p k
asked-at asked p k h = bound-at asked.coefficients p.coefficients k ((and_parts _ (all2 nat_le asked.coefficients p.coefficients) h).1)

other-than : (a k : ℕ) → not (a == k) ≡ true → k ≢ a
other-than a k h same = false≢true (sym (ap not (eq-eqb a k (sym same))) ∙ h)

set-kept : (a n k : ℕ) (p q : Potential) → is_paid (asks_setting a n q) p ≡ true → k ≢ a → coefficient q k ≤ coefficient p k
set-kept a n k p q h ne = (let least = asked-at (asks_setting a n q) p k h in let same = get_or-set_other q.coefficients a k 0 0 ne in
    omega (arith, least, same))

-- an edge to the next instruction that does not change a counter requires its coefficient
along-kept : (image other : Parts) (i : Instr) (opcode : Opcode) (row : Row) (p q : Potential) (k : ℕ)
    → pays_along other i opcode row p q ≡ true → keeps_counter image k i opcode false ≡ true → coefficient q k ≤ coefficient p k
along-kept image other i Setk row p q k h kept = set-kept i.a i.imm k p q h (other-than i.a k kept)
along-kept image other i Setkw row p q k h kept = set-kept i.a (bound row i.b) k p q h (other-than i.a k kept)
along-kept image other i Loop row p q k h kept = set-kept i.a 0 k p q h (other-than i.a k kept)
along-kept image other i Call row p q k h kept = asked-at (asks_calling (budget_of other i.imm) q) p k
    ((and_parts _ (are_spent (touched_by other i.imm) q) h).0)
along-kept image other i _ row p q k h kept = bound-at q.coefficients p.coefficients k ((and_parts _ (all2 nat_le q.coefficients p.coefficients) h).1)

-- and so does one to the target
branching-kept : (i : Instr) (opcode : Opcode) (p q : Potential) (k : ℕ) → pays_branching i opcode p q ≡ true → coefficient q k ≤ coefficient p k
branching-kept i Loop p q k h = bound-at q.coefficients p.coefficients k ((and_parts _ (all2 nat_le q.coefficients p.coefficients) h).1)
branching-kept i _ p q k h = bound-at q.coefficients p.coefficients k ((and_parts _ (all2 nat_le q.coefficients p.coefficients) h).1)

-- on an edge to a target only the constant pays, unless the instruction is a LOOP with a counter that pays
branching-idle : (i : Instr) (opcode : Opcode) (p q : Potential) → pays_branching i opcode p q ≡ true
    → (is_loop opcode ≡ true → coefficient p i.a ≡ 0) → q.constant + 1 ≤ p.constant
branching-idle i Loop p q h none =
    let paid = leb-true (q.constant + 1) (p.constant + get_or p.coefficients i.a 0)
    ((and_parts (nat_le (q.constant + 1) (p.constant + get_or p.coefficients i.a 0)) (all2 nat_le q.coefficients p.coefficients) h).0) in
    let zero = none refl in
    omega (arith, paid, zero)
branching-idle i _ p q h none = leb-true (q.constant + 1) p.constant
    ((and_parts (nat_le (q.constant + 1) p.constant) (all2 nat_le q.coefficients p.coefficients) h).0)

-- where the budget pays whatever the counters are, there are no coefficients
none-at : (cs : List ℕ) (k : ℕ) → list_any (λ c. nat_lt 0 c) cs ≡ false → get_or cs k 0 ≡ 0
none-at [] k h = refl
none-at (c ∷ cs) zero h = (let le = ltb-false 0 c ((or_parts (nat_lt 0 c) (list_any (λ c. nat_lt 0 c) cs) h).0) in omega (arith, le))
none-at (c ∷ cs) (suc k) h = none-at cs k ((or_parts (nat_lt 0 c) (list_any (λ c. nat_lt 0 c) cs) h).1)

pub calls-only : (image : Parts) (k : ℕ) (i : Instr) → calls_touching image k i ≡ true → (i.opcode ≡ Call) × (touches image k i.imm ≡ true)
calls-only image k i h = (let parts = and_parts (calls i.opcode) (touches image k i.imm) h in (by_opcode i.opcode parts.0, parts.1))
  where
    by_opcode : (opcode : Opcode) → calls opcode ≡ true → opcode ≡ Call
    by_opcode Call e = refl
    by_opcode _ e = absurd (false≢true e)

-- In an image that is accepted

module _ (image : Parts) (has : HasAccepted image) (r : ℕ) (routine : Routine) (there : slice_get has.other.routines r ≡ Some routine) where
  -- the potential at a pc
  abbrev potential : ℕ → Potential
  potential pc = elim (slice_get (places has.other) pc) [ None ↦ record { constant = 0; coefficients = zeros } | Some place ↦ place.potential ]

  potential-is : (pc : ℕ) (place : Place) → slice_get (places has.other) pc ≡ Some place → place.potential ≡ potential pc
  potential-is pc place read = rw (read, potential) refl

  -- an edge within the routine that does not change a counter requires its coefficient
  edge-kept : (pc to k : ℕ) (branch : Bool) → IsPcOf image r pc → (leads : LeadsTo image pc branch to)
      → keeps_counter image k leads.point.instr leads.point.instr.opcode branch ≡ true → coefficient (potential to) k ≤ coefficient (potential pc) k
  edge-kept pc to k false within leads kept =
      let here = point-of image has r routine there pc within in
      let same = same-instr image has r routine there pc leads.point here.0 leads.there here.1.read in
      let falls : falls_through here.0.instr.opcode ≡ true = ap (λ (x : Instr). falls_through x.opcode) same ∙ leads.has in
      let L = leads-along has.other.keyed has.other has.checked.0 has.checked.1 r pc routine here.0 here.1 here.0.instr.opcode refl falls in
      let kept_here = subst (λ (x : Instr). keeps_counter image k x x.opcode false ≡ true) (sym same) kept in
      let most = along-kept image has.other here.0.instr here.0.instr.opcode here.0.row here.0.potential L.point.potential k L.pays kept_here in
      let first = ap (λ (p : Potential). coefficient p k) (potential-is pc here.0 here.1.read) in
      let second = ap (λ (p : Potential). coefficient p k)
      (potential-is to L.point (subst (λ (n : ℕ). slice_get (places has.other) n ≡ Some L.point) leads.leads L.has.read)) in
      omega (arith, most, first, second)
  edge-kept pc to k true within leads kept =
      let here = point-of image has r routine there pc within in
      let same = same-instr image has r routine there pc leads.point here.0 leads.there here.1.read in
      let goes : branches here.0.instr.opcode ≡ true = ap (λ (x : Instr). branches x.opcode) same ∙ leads.has in
      let L = leads-branching has.other.keyed has.other has.checked.0 has.checked.1 r pc routine here.0 here.1 here.0.instr.opcode refl goes in
      let most = branching-kept here.0.instr here.0.instr.opcode here.0.potential L.point.potential k L.pays in
      let first = ap (λ (p : Potential). coefficient p k) (potential-is pc here.0 here.1.read) in
      let end : here.0.instr.target ≡ to = ap (λ (x : Instr). x.target) same ∙ leads.leads in
      let second = ap (λ (p : Potential). coefficient p k)
      (potential-is to L.point (subst (λ (n : ℕ). slice_get (places has.other) n ≡ Some L.point) end L.has.read)) in
      omega (arith, most, first, second)

  -- one on which no LOOP may pay is paid for by the constant
  edge-idle : (pc to : ℕ) (branch : Bool) → IsPcOf image r pc → (leads : LeadsTo image pc branch to)
      → ((branch && is_loop leads.point.instr.opcode) ≡ true → coefficient (potential pc) leads.point.instr.a ≡ 0)
      → (potential to).constant + 1 ≤ (potential pc).constant
  edge-idle pc to false within leads none =
      let here = point-of image has r routine there pc within in
      let same = same-instr image has r routine there pc leads.point here.0 leads.there here.1.read in
      let falls : falls_through here.0.instr.opcode ≡ true = ap (λ (x : Instr). falls_through x.opcode) same ∙ leads.has in
      let L = leads-along has.other.keyed has.other has.checked.0 has.checked.1 r pc routine here.0 here.1 here.0.instr.opcode refl falls in
      let most = along-steps has.other here.0.instr here.0.instr.opcode here.0.row here.0.potential L.point.potential L.pays in
      let first = ap (λ (p : Potential). p.constant) (potential-is pc here.0 here.1.read) in
      let second = ap (λ (p : Potential). p.constant)
      (potential-is to L.point (subst (λ (n : ℕ). slice_get (places has.other) n ≡ Some L.point) leads.leads L.has.read)) in
      omega (arith, most, first, second)
  edge-idle pc to true within leads none =
      let here = point-of image has r routine there pc within in
      let same = same-instr image has r routine there pc leads.point here.0 leads.there here.1.read in
      let goes : branches here.0.instr.opcode ≡ true = ap (λ (x : Instr). branches x.opcode) same ∙ leads.has in
      let L = leads-branching has.other.keyed has.other has.checked.0 has.checked.1 r pc routine here.0 here.1 here.0.instr.opcode refl goes in
      let is = potential-is pc here.0 here.1.read in
      let idle : is_loop here.0.instr.opcode ≡ true → coefficient here.0.potential here.0.instr.a ≡ 0 =
      (λ loops. ap (λ (p : Potential). coefficient p here.0.instr.a) is ∙ ap (λ (x : Instr). coefficient (potential pc) x.a) same
      ∙ none (ap (λ (x : Instr). is_loop x.opcode) (sym same) ∙ loops)) in
      let most = branching-idle here.0.instr here.0.instr.opcode here.0.potential L.point.potential L.pays idle in
      let first = ap (λ (p : Potential). p.constant) is in
      let end : here.0.instr.target ≡ to = ap (λ (x : Instr). x.target) same ∙ leads.leads in
      let second = ap (λ (p : Potential). p.constant)
      (potential-is to L.point (subst (λ (n : ℕ). slice_get (places has.other) n ≡ Some L.point) end L.has.read)) in
      omega (arith, most, first, second)

  -- on a path that does not change a counter, its coefficient never grows
  trail-kept : (k from : ℕ) (branches : List Bool) (to : ℕ) → IsPcOf image r from → IsTrail image r (Some k) from branches to
      → coefficient (potential to) k ≤ coefficient (potential from) k
  trail-kept k from [] to within trail = (let same = ap (λ (n : ℕ). coefficient (potential n) k) trail in omega (arith, same))
  trail-kept k from (branch ∷ branches) to within trail =
      let step = trail.1 in
      let first = edge-kept from trail.0 k branch within step.leads (step.kept step.leads.point step.leads.there) in
      let rest = trail-kept k trail.0 branches to step.stays trail.2 in
      omega (arith, first, rest)

  -- where the routine begins there are none
  first-zero : (k : ℕ) → IsPcOf image r (start_of image.routines r) → coefficient (potential (start_of image.routines r)) k ≡ 0
  first-zero k within =
      let here = point-of image has r routine there (start_of image.routines r) within in
      let same : start_of image.routines r ≡ start_of has.other.routines r = ap (λ (routines : List Routine). start_of routines r)
      (sym has.same.routines) in
      let begins = (may_begin has.other.keyed has.other has.checked.0 has.checked.1 r (start_of image.routines r) routine here.0 here.1 same).1 in
      let none = not-true _ ((and_parts (nat_le here.0.potential.constant routine.budget)
      (not (list_any (λ c. nat_lt 0 c) here.0.potential.coefficients)) begins).1) in
      ap (λ (p : Potential). coefficient p k) (sym (potential-is (start_of image.routines r) here.0 here.1.read))
      ∙ none-at here.0.potential.coefficients k none

  -- after a call the coefficients of the counters that the routine touches are 0
  call-zero : (k at : ℕ) (point : Point) → IsPcOf image r at → slice_get image.points at ≡ Some point
      → calls_touching image k point.instr ≡ true → coefficient (potential (at + 1)) k ≡ 0
  call-zero k at point within read touching =
      let here = point-of image has r routine there at within in
      let same = same-instr image has r routine there at point here.0 read here.1.read in
      let calling = calls-only image k point.instr touching in
      let opcode : here.0.instr.opcode ≡ Call = ap (λ (x : Instr). x.opcode) same ∙ calling.0 in
      let L = leads-along has.other.keyed has.other has.checked.0 has.checked.1 r at routine here.0 here.1 Call opcode refl in
      let touched : touches has.other k here.0.instr.imm ≡ true = touches-same image has.other has.same k here.0.instr.imm
      ∙ ap (λ (x : Instr). touches image k x.imm) same ∙ calling.1 in
      let is = ap (λ (p : Potential). coefficient p k) (sym (potential-is (at + 1) L.point L.has.read)) in
      let four = (four-at image has r routine there (at + 1) L.point L.has.read).four in
      elim (cases_lt k 4) [
        | inl few ↦ is ∙ spent-at has.other here.0.instr.imm here.0.potential L.point.potential
            (budget_of has.other here.0.instr.imm) L.pays k few touched
        | inr past ↦ is ∙ get_or_past L.point.potential.coefficients k 0 (omega (arith, past, four))
      ]

  begins-in : (pc : ℕ) → IsPcOf image r pc → IsPcOf image r (start_of image.routines r)
  begins-in pc within = (let above = within.above in let below = within.below in record { above = omega arith; below = omega (arith, above, below) })

  -- where a counter may not pay there are none
  idle-zero : (k pc : ℕ) → IsPcOf image r pc → MayNotPay image r k pc → coefficient (potential pc) k ≡ 0
  idle-zero k pc within (inl unset) =
      let begins = begins-in pc within in
      let first = first-zero k begins in
      let rest = trail-kept k (start_of image.routines r) unset.branches pc begins unset.trail in
      omega (arith, first, rest)
  idle-zero k pc within (inr left) =
      let first = call-zero k left.at left.touches.0 left.here left.touches.1 left.touches.2 in
      let rest = trail-kept k (left.at + 1) left.kept.branches pc left.kept.behind left.kept.trail in
      omega (arith, first, rest)

  idle-steps : (pc to : ℕ) (branch : Bool) → IsPcOf image r pc → LeadsIdle image r pc branch to
      → (potential to).constant + 1 ≤ (potential pc).constant
  idle-steps pc to branch within lead = edge-idle pc to branch within lead.leads
      (λ loops. idle-zero lead.leads.point.instr.a pc within (lead.idle loops))

  way-steps : (branches : List Bool) (from to : ℕ) → IsPcOf image r from → IsIdleWay image r from branches to
      → (potential to).constant ≤ (potential from).constant
  way-steps [] from to within way = (let same = ap (λ (n : ℕ). (potential n).constant) way in omega (arith, same))
  way-steps (branch ∷ branches) from to within way =
      let first = idle-steps from way.0 branch within way.1 in
      let rest = way-steps branches way.0 to way.1.stays way.2 in
      omega (arith, first, rest)

  never-round : IsNeverPaid image r → ⊥
  never-round N =
      let first = idle-steps N.from N.next N.branch N.begins N.first in
      let rest = way-steps N.branches N.next N.from N.first.stays N.way in
      omega (arith, first, rest)

-- so no image is accepted
pub none-accepted-round : (image : Parts) (r : ℕ) → r < length image.routines → IsNeverPaid image r → HasAccepted image → ⊥
none-accepted-round image r lt never has =
    let there = item_at has.other.routines r (subst (λ (routines : List Routine). r < length routines) (sym has.same.routines) lt) in
    never-round image has r there.0 there.1 never
