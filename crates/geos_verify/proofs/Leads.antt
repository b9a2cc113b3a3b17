-- What the rules, where none refuses, say of the points that control comes to.
use Rattle.std.proofs.Common.{◌≡◌, ℕ, zero, suc, ◌+◌, ◌<◌, ◌≤◌, Bool, true, not, Some, List, [], ◌∷◌, ◌++◌, length, slice_get, refl, sym, ap, ◌∙◌, subst, arith}
use Rattle.std.specs.Prelude.{nat_lt, ◌==◌, ◌&&◌}
use Rattle.std.proofs.lemmas.Bool.{eqb-false, and_parts, or_parts, not-false, ltb-true, eq-eqb}
use Rattle.geos_opcodes.specs.declared.opcode.Opcode.{Opcode}
use Rattle.geos_opcodes.specs.declared.opcode.Opcode.TheVariants.{Call}
use Rattle.geos_image.specs.declared.row.Row.{Row}
use Rattle.geos_image.specs.declared.potential.Potential.{Potential}
use Rattle.geos_image.specs.declared.routine.Routine.{Routine}
use Rattle.geos_verify.specs.declared.place.Place.{Place}
use Rattle.geos_verify.specs.Places.{places, at_place}
use Rattle.geos_image.specs.declared.instr.Instr.{Instr}
use Rattle.geos_image.specs.Fields.{FieldsFit, TargetFits, CalleeFits}
use Rattle.geos_image.specs.Parts.{Parts, start_of}
use Rattle.geos_image.specs.Legal.{is_name, is_named, is_row, is_routine, are_routines, is_formed}
use Rattle.geos_image.proofs.Instrs.{formed_parts, formed_fits}
use Rattle.geos_image.specs.Keys.{falls_through, branches}
use Rattle.geos_verify.specs.Rows.{at_point, row_along, row_branching, fits, may_enter, may_leave}
use Rattle.geos_verify.specs.Potentials.{pays_along, pays_branching, is_within}
use Rattle.geos_verify.specs.Rules.{has_place, returns, leaves_routine, entry_misfits, exit_misfits, misfits_at, edge_misfits, unpaid_along, unpaid_branching, edge_unpaid, over_budget, at_routine, call_misfits, HasPoint, Accepted}
use Rattle.geos_verify.specs.Touched.{calls}
use Rattle.geos_image.proofs.Starts.{start_of-end}
use Rattle.geos_verify.proofs.Noted.{and-false}
use Rattle.geos_verify.proofs.Passed.{NoneRefuses, none-refuses}
use Rattle.geos_verify.proofs.Places.{place_bounds, place_true, item_at, places-length, point-of}
use Rattle.geos_verify.proofs.Known.{at_place-is}

-- where control goes: a point of the routine, whose row the given one fits, and whose
-- potential is paid for
pub record Leads (image : Parts) (r : ℕ) (routine : Routine) (to : ℕ) (row : Row) (paid : Potential → Bool) : Type 0 where
  pub point : Place
  pub has : HasPoint image r routine to point
  pub fits : fits row point.row ≡ true
  pub pays : paid point.potential ≡ true

-- what an image's rules say of a routine
pub record RoutineParts (borrows : Bool) (routine : Routine) : Type 0 where
  pub count : 0 < routine.count
  pub entry : is_row borrows routine.entry ≡ true
  pub exit : is_row borrows routine.exit ≡ true

pub routine_parts : (borrows : Bool) (earlier routines : List Routine) (r : ℕ) (routine : Routine)
    → are_routines borrows earlier routines ≡ true → slice_get routines r ≡ Some routine → RoutineParts borrows routine
routine_parts borrows earlier [] r routine h e = absurd cc
routine_parts borrows earlier (x ∷ routines) zero routine h e =
    let same : x ≡ routine = cc in
    let here = (and_parts (is_routine borrows earlier x) (are_routines borrows (earlier ++ x ∷ []) routines) h).0 in
    let a = and_parts (is_name x.name && not (is_named x.name earlier) && nat_lt 0 x.count && is_row borrows x.entry) (is_row borrows x.exit) here in
    let b = and_parts (is_name x.name && not (is_named x.name earlier) && nat_lt 0 x.count) (is_row borrows x.entry) a.0 in
    let c = and_parts (is_name x.name && not (is_named x.name earlier)) (nat_lt 0 x.count) b.0 in
    subst (RoutineParts borrows) same (record { count = ltb-true 0 x.count c.1; entry = b.1; exit = a.1 })
routine_parts borrows earlier (x ∷ routines) (suc r) routine h e =
    routine_parts borrows (earlier ++ x ∷ []) routines r routine
    ((and_parts (is_routine borrows earlier x) (are_routines borrows (earlier ++ x ∷ []) routines) h).1) e

-- a pc of the routine has a point
pub point_at : (borrows : Bool) (image : Parts) (r : ℕ) (routine : Routine) (to : ℕ) → is_formed borrows image ≡ true
    → slice_get image.routines r ≡ Some routine → has_place (start_of image.routines r) routine.count to ≡ true
    → (point : Place) × HasPoint image r routine to point
point_at borrows image r routine to legal there within =
    let place = place_bounds (start_of image.routines r) routine.count to within in
    let end = start_of-end image.routines r routine there in
    let counts = (formed_parts borrows image legal).counts in
    let found = item_at (places image) to (omega (arith, place.1, end, counts, places-length image)) in
    (found.0, record { there = there; within = within; read = found.1 })

-- what may be taken for granted of the instruction at a place
pub place_fits : (borrows : Bool) (image : Parts) (pc : ℕ) (place : Place) → is_formed borrows image ≡ true → slice_get (places image) pc ≡ Some place
    → FieldsFit place.instr.opcode place.instr × TargetFits (length image.points) place.instr × CalleeFits (length image.routines) place.instr
place_fits borrows image pc place legal e =
    let found = point-of image pc place e in
    subst (λ (i : Instr). FieldsFit i.opcode i × TargetFits (length image.points) i × CalleeFits (length image.routines) i)
    (sym found.2.instr) (formed_fits borrows image pc found.0 legal found.1)

-- what holds of the potential at a place holds of that of its point
paid_at-is : (image : Parts) (to : ℕ) (place : Place) (test : Potential → Bool) → slice_get (places image) to ≡ Some place
    → at_point image to (λ q. test q.potential) ≡ test place.potential
paid_at-is image to place test e =
    let found = point-of image to place e in
    rw (found.1, at_point) (ap test (sym found.2.potential))

at_routine-is : (image : Parts) (r : ℕ) (routine : Routine) (test : Routine → Bool) → slice_get image.routines r ≡ Some routine
    → at_routine image r test ≡ test routine
at_routine-is image r routine test e = rw (e, at_routine) refl

module _ (borrows : Bool) (image : Parts) (legal : is_formed borrows image ≡ true) (accepted : Accepted image)
    (r pc : ℕ) (routine : Routine) (point : Place) (has : HasPoint image r routine pc point) where
  pub rules_pass : NoneRefuses image r routine (start_of image.routines r) pc point
  rules_pass = none-refuses image r routine (start_of image.routines r) pc point (accepted r pc routine point has)

  -- the edge to the next instruction
  pub leads-along : (opcode : Opcode) → point.instr.opcode ≡ opcode → falls_through opcode ≡ true
      → Leads image r routine (pc + 1) (row_along image point.instr opcode point.row) (pays_along image point.instr opcode point.row point.potential)
  unfolding leaves_routine edge_misfits misfits_at edge_unpaid unpaid_along
  leads-along opcode is falls =
      let i = point.instr in
      let falls_here : falls_through i.opcode ≡ true = ap falls_through is ∙ falls in
      let stays = or_parts (falls_through i.opcode && not (has_place (start_of image.routines r) routine.count (pc + 1))) _ rules_pass.stays in
      let within = not-false _ (and-false (falls_through i.opcode) _ stays.0 falls_here) in
      let next = point_at borrows image r routine (pc + 1) legal has.there within in
      let fit = or_parts (falls_through i.opcode && not (at_place image (pc + 1) (λ q. fits (row_along image i i.opcode point.row) q.row)))
      _ rules_pass.edge in
      let fit_here = not-false _ (and-false (falls_through i.opcode) _ fit.0 falls_here) in
      let pay = or_parts _ (returns i.opcode && point.potential.constant == 0) rules_pass.paid in
      let pay_along = or_parts (falls_through i.opcode && not
      (at_point image (pc + 1) (λ q. pays_along image i i.opcode point.row point.potential q.potential))) _ pay.0 in
      let pay_here = not-false _ (and-false (falls_through i.opcode) _ pay_along.0 falls_here) in
      let P : Opcode → Type 0 = λ o. Leads image r routine (pc + 1) (row_along image i o point.row)
      (pays_along image i o point.row point.potential) in
      subst P is (record {
        point = next.0;
        has = next.1;
        fits = sym (at_place-is image (pc + 1) next.0 (λ q. fits (row_along image i i.opcode point.row) q.row) next.1.read) ∙ fit_here;
        pays = sym (paid_at-is image (pc + 1) next.0 (λ q. pays_along image i i.opcode point.row point.potential q) next.1.read) ∙ pay_here;
      })

  -- the edge to the target
  pub leads-branching : (opcode : Opcode) → point.instr.opcode ≡ opcode → branches opcode ≡ true
      → Leads image r routine point.instr.target (row_branching point.instr opcode point.row) (pays_branching point.instr opcode point.potential)
  unfolding leaves_routine edge_misfits misfits_at edge_unpaid unpaid_branching
  leads-branching opcode is branch =
      let i = point.instr in
      let branch_here : branches i.opcode ≡ true = ap branches is ∙ branch in
      let stays = or_parts _ (branches i.opcode && not (has_place (start_of image.routines r) routine.count i.target)) rules_pass.stays in
      let within = not-false _ (and-false (branches i.opcode) _ stays.1 branch_here) in
      let next = point_at borrows image r routine i.target legal has.there within in
      let fit = or_parts _ (branches i.opcode && not (at_place image i.target (λ q. fits (row_branching i i.opcode point.row) q.row)))
      rules_pass.edge in
      let fit_here = not-false _ (and-false (branches i.opcode) _ fit.1 branch_here) in
      let pay = or_parts _ (returns i.opcode && point.potential.constant == 0) rules_pass.paid in
      let pay_branch = or_parts _ (branches i.opcode && not (at_point image i.target (λ q. pays_branching i i.opcode point.potential q.potential)))
      pay.0 in
      let pay_here = not-false _ (and-false (branches i.opcode) _ pay_branch.1 branch_here) in
      let P : Opcode → Type 0 = λ o. Leads image r routine i.target (row_branching i o point.row) (pays_branching i o point.potential) in
      subst P is (record {
        point = next.0;
        has = next.1;
        fits = sym (at_place-is image i.target next.0 (λ q. fits (row_branching i i.opcode point.row) q.row) next.1.read) ∙ fit_here;
        pays = sym (paid_at-is image i.target next.0 (λ q. pays_branching i i.opcode point.potential q) next.1.read) ∙ pay_here;
      })

  -- a routine that is called is there, and lower, and the row fits its entry row
  pub may_call : calls point.instr.opcode ≡ true → (callee : Routine) × (slice_get image.routines point.instr.imm ≡ Some callee)
      × (point.instr.imm < r) × (fits point.row callee.entry ≡ true)
  unfolding call_misfits
  may_call is =
      let i = point.instr in
      let misfits = or_parts (not (nat_lt i.imm r)) _ (and-false (calls i.opcode) _ rules_pass.call is) in
      let here = not-false _ misfits.1 in
      let found = item_at image.routines i.imm (called-there i.opcode refl is) in (
        found.0,
        found.1,
        ltb-true i.imm r (not-false _ misfits.0),
        sym (at_routine-is image i.imm found.0 (λ callee. fits point.row callee.entry) found.1) ∙ here,
      )
    where
      called-there : (opcode : Opcode) → point.instr.opcode ≡ opcode → calls opcode ≡ true → point.instr.imm < length image.routines
      called-there Call same is = (place_fits borrows image pc point legal has.read).2 (rw same refl)
      called-there _ same is = absurd cc

  -- a return is as the exit row says, and is paid for
  pub may_return : returns point.instr.opcode ≡ true → (fits point.row routine.exit ≡ true) × (1 ≤ point.potential.constant)
  unfolding exit_misfits edge_unpaid
  may_return is =
      let fit = not-false _ (and-false (returns point.instr.opcode) _ rules_pass.exit is) in
      let pay = or_parts _ (returns point.instr.opcode && point.potential.constant == 0) rules_pass.paid in
      let some = eqb-false point.potential.constant 0 (and-false (returns point.instr.opcode) _ pay.1 is) in
      (fit, omega (arith, some))

  -- where a routine begins, its entry row fits the row, and its budget pays
  pub may_begin : pc ≡ start_of image.routines r → (fits routine.entry point.row ≡ true) × (is_within routine.budget point.potential ≡ true)
      × (routine.public ≡ true → (may_enter routine.entry ≡ true) × (may_leave routine.entry routine.exit ≡ true))
  unfolding entry_misfits over_budget
  may_begin is =
      let here : (pc == start_of image.routines r) ≡ true = eq-eqb pc (start_of image.routines r) is in
      let entry = or_parts (not (fits routine.entry point.row)) _ (and-false (pc == start_of image.routines r) _ rules_pass.entry here) in (
        not-false _ entry.0,
        not-false _ (and-false (pc == start_of image.routines r) _ rules_pass.budget here),
        λ public. and_parts (may_enter routine.entry) (may_leave routine.entry routine.exit)
            (not-false _ (and-false routine.public _ entry.1 public)),
      )

-- a routine has an instruction where it begins
pub begins-within : (borrows : Bool) (image : Parts) → is_formed borrows image ≡ true → (r : ℕ) (routine : Routine)
    → slice_get image.routines r ≡ Some routine → has_place (start_of image.routines r) routine.count (start_of image.routines r) ≡ true
begins-within borrows image legal r routine there = place_true (start_of image.routines r) routine.count
    (start_of image.routines r) (omega arith)
    (let some = (routine_parts borrows [] image.routines r routine (formed_parts borrows image legal).routines there).count in omega arith)
