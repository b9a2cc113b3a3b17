-- The result for routines with loops: the constants pay and are the least, and LOOPs require the coefficients.
use Rattle.std.proofs.Common.{◌≡◌, ◌≤◌, ◌<◌, ℕ, Bool, true, false, List, [], ◌∷◌, length, Option, Some, None, slice_get, refl, sym, ap, ◌∙◌, subst, arith, inl, inr}
use Rattle.std.specs.Prelude.{slice_index}
use Rattle.geos_opcodes.specs.declared.opcode.Opcode.{Opcode}
use Rattle.geos_opcodes.specs.declared.opcode.Opcode.TheVariants.{Setk, Setkw, Loop, Call}
use Rattle.geos_image.specs.declared.instr.Instr.{Instr}
use Rattle.geos_image.specs.declared.row.Row.{Row}
use Rattle.geos_image.specs.declared.point.Point.{Point}
use Rattle.geos_image.specs.declared.potential.Potential.{Potential}
use Rattle.geos_image.specs.Keys.{branches}
use Rattle.geos_verify.specs.Rows.{has_edge}
use Rattle.geos_image.specs.Parts.{Parts}
use Rattle.geos_image.specs.Legal.{is_image}
use Rattle.geos_image.specs.declared.routine.Routine.{Routine}
use Rattle.geos_verify.specs.declared.asked.Asked.{Asked}
use Rattle.geos_verify.specs.Potentials.{asked_along, asks_calling}
use Rattle.geos_verify.proofs.Places.{item_at}
use Rattle.std.proofs.lemmas.Option.{same_Some, slice_get_within}
use Rattle.geos_code.specs.Code.{Edge, IsPcOf, instrs_of, edge_end}
use Rattle.geos_code.specs.Edges.{LeadsTo}
use Rattle.geos_infer.specs.Points.{PointsOf}
use Rattle.geos_infer.specs.Theorem.{with_points}
use Rattle.geos_code.proofs.Bodies.{lies}
use Rattle.geos_code.proofs.Ends.{ends-at}
use Rattle.geos_potentials.specs.Count.{return_steps}
use Rattle.geos_potentials.specs.Constants.{asked_over, PaysSteps, ConstantsPay, row_known, coefficients_at, HasLoops, AreLeastFrom, given_row, coefficients_in, potential_given, HasLeastConstants, PaysForLoops, HasCoefficientsForLoops, IsAskingWay, LeadsAsking, potential_in}
use Rattle.geos_potentials.specs.Numbers.{Numbers}

same-asked : (image other : Parts) → other.routines ≡ image.routines → (i : Instr) (opcode : Opcode) (row : Row) (q : Potential)
    → asked_along other i opcode row q ≡ asked_along image i opcode row q
same-asked image other same i Setk row q = refl
same-asked image other same i Setkw row q = refl
same-asked image other same i Loop row q = refl
same-asked image other same i Call row q =
    ap (λ (routines : List Routine). asks_calling (elim (slice_get routines i.imm) [ None ↦ 0 | Some routine ↦ routine.budget ]) q) same
same-asked image other same i _ row q = refl

same-over : (image other : Parts) → other.routines ≡ image.routines → (i : Instr) (row : Row) (branch : Bool) (q : Potential)
    → asked_over other i row branch q ≡ asked_over image i row branch q
same-over image other same i row true q = refl
same-over image other same i row false q = same-asked image other same i i.opcode row q

module _ (image : Parts) (legal : is_image image ≡ true) (known : List (Option Row)) (numbers : Numbers)
    (points : List Point) (P : PointsOf image known numbers points) (codes : instrs_of (with_points image points) ≡ instrs_of image) where
  abbrev made : Parts
  made = with_points image points

  loops-same : (r : ℕ) → HasLoops made r → HasLoops image r
  loops-same r L = record {
    pc = L.pc;
    within = record { above = L.within.above; below = L.within.below };
    loops = elim L.loops [
      | inl loop ↦ inl (loop.0, ap (λ (code : List Instr). slice_get code L.pc) (sym codes) ∙ loop.1, loop.2)
      | inr back ↦ inr (record {
        to = back.to;
        i = back.i;
        edge = subst (λ (code : List Instr). Edge code L.pc true back.to back.i)
            codes back.edge;
        stays = record { above = back.stays.above; below = back.stays.below };
        back = back.back;
      })
    ];
  }

  at : (r : ℕ) → r < length image.routines → (pc : ℕ) → IsPcOf image r pc → (point : Point) × (slice_get image.points pc ≡ Some point)
  at r lt pc within =
      let routine = item_at image.routines r lt in
      let room = (lies image legal r routine.0 routine.1).0 in
      let ends = ends-at image.routines r routine.0 routine.1 in
      let below = within.below in
      item_at image.points pc (omega (arith, room, ends, below))

  -- constants that pay for what is answered pay for what is counted
  counted-pay : (r : ℕ) (steps : ℕ → ℕ) → r < length image.routines → ConstantsPay made r (given_row made) (coefficients_in made) steps
      → ConstantsPay image r (row_known known) (coefficients_at numbers.coefficients) steps
  counted-pay r steps lt Q = record {
    edges = λ pc to branch within leads inside.
        let here = P.each pc leads.point leads.there in
        let end = at r lt to inside in
        let there = P.each to end.0 end.1 in
        let over : LeadsTo made pc branch to = record { point = _; there = here; has = leads.has; leads = leads.leads } in
        let paid = Q.edges pc to branch (record { above = within.above; below = within.below }) over
        (record { above = inside.above; below = inside.below }) in
        let row : given_row made pc ≡ row_known known pc = rw here refl in
        let units : coefficients_in made pc ≡ coefficients_at numbers.coefficients pc = rw here refl in
        let behind : coefficients_in made to ≡ coefficients_at numbers.coefficients to = rw there refl in
        let q : Potential = record { constant = steps to; coefficients = coefficients_at numbers.coefficients to } in
        subst (λ (asked : Asked). PaysSteps asked (record { constant = steps pc; coefficients = coefficients_at numbers.coefficients pc }))
        (same-over image made refl leads.point.instr (row_known known pc) branch q)
        (subst (λ (x : Row). PaysSteps (asked_over made leads.point.instr x branch q)
        (record { constant = steps pc; coefficients = coefficients_at numbers.coefficients pc })) row
        (subst (λ (x : List ℕ). PaysSteps (asked_over made leads.point.instr (given_row made pc) branch q)
        (record { constant = steps pc; coefficients = x })) units
        (subst (λ (x : List ℕ). PaysSteps (asked_over made leads.point.instr (given_row made pc) branch
        (record { constant = steps to; coefficients = x })) (record { constant = steps pc; coefficients = coefficients_in made pc }))
        behind paid)));
    returns = λ pc point within there. Q.returns pc _ (record { above = within.above; below = within.below }) (P.each pc point there);
  }

  -- so what is answered has the least constants
  pub least-given : AreLeastFrom image 0 (length image.routines) known numbers → HasLeastConstants made
  least-given least r steps lt loops Q pc point within there =
      let old = item_at image.points pc (let in_points = slice_get_within points pc point there in let len = P.len in
      omega (arith, in_points, len)) in
      let less = (least r (omega arith) lt (loops-same r loops)).1 steps (counted-pay r steps lt Q) pc
      (record { above = within.above; below = within.below }) in
      let is = same_Some point _ (sym there ∙ P.each pc old.0 old.1) in
      let constant : point.potential.constant ≡ slice_index numbers.steps pc = ap (λ (x : Point). x.potential.constant) is in
      omega (arith, less, constant)

  -- an edge that requires a coefficient does so in the result too
  asking-made : (r k pc to : ℕ) (branch : Bool) → LeadsAsking image r k pc branch to → LeadsAsking made r k pc branch to
  asking-made r k pc to branch A = record {
    leads = record { point = _; there = P.each pc A.leads.point A.leads.there; has = A.leads.has; leads = A.leads.leads };
    stays = record { above = A.stays.above; below = A.stays.below };
    asks = A.asks;
  }

  way-made : (r k : ℕ) (branches : List Bool) (from to : ℕ) → IsAskingWay image r k from branches to → IsAskingWay made r k from branches to
  way-made r k [] from to way = way
  way-made r k (branch ∷ branches) from to way = (way.0, asking-made r k from way.0 branch way.1, way-made r k branches way.0 to way.2)

  -- so LOOPs require the coefficients of the result
  pub for-given : AreLeastFrom image 0 (length image.routines) known numbers → HasCoefficientsForLoops made
  for-given least r lt loops pc k within some =
      let wanted = (least r (omega arith) lt (loops-same r loops)).2 in
      let inside : IsPcOf image r pc = record { above = within.above; below = within.below } in
      let point = at r lt pc inside in
      let here : coefficients_in made pc ≡ coefficients_at numbers.coefficients pc = rw (P.each pc point.0 point.1) refl in
      let W = wanted pc k inside (subst (λ (xs : List ℕ). 0 < slice_index xs k) here some) in
      let there : coefficients_in made W.at ≡ coefficients_at numbers.coefficients W.at = rw (P.each W.at W.point W.there) refl in
      let here_k = ap (λ (xs : List ℕ). slice_index xs k) here in
      let there_k = ap (λ (xs : List ℕ). slice_index xs k) there in
      record {
        at = W.at;
        within = record { above = W.within.above; below = W.within.below };
        branches = W.branches;
        way = way-made r k W.branches pc W.at W.way;
        point = _;
        there = P.each W.at W.point W.there;
        loops = W.loops;
        counter = W.counter;
        much = (let much = W.much in omega (arith, much, here_k, there_k));
      }

  -- and it pays
  pub paid-given : AreLeastFrom image 0 (length image.routines) known numbers → PaysForLoops made
  paid-given least r lt loops =
      let paid = (least r (omega arith) lt (loops-same r loops)).0 in
      record {
        edges = λ pc to branch within leads inside.
            let old = point-at pc leads.point leads.there in
            let end = at r lt to (record { above = inside.above; below = inside.below }) in
            let is = same_Some leads.point _ (sym leads.there ∙ P.each pc old.0 old.1) in
            let instr : leads.point.instr ≡ old.0.instr = ap (λ (x : Point). x.instr) is in
            let over : LeadsTo image pc branch to =
            record {
              point = old.0;
              there = old.1;
              has = subst (λ (i : Instr). has_edge i branch ≡ true) instr leads.has;
              leads =
                  subst (λ (i : Instr). edge_end pc i branch ≡ to) instr leads.leads;
            } in
            let this = paid.edges pc to branch (record { above = within.above; below = within.below }) over
            (record { above = inside.above; below = inside.below }) in
            let row : given_row made pc ≡ row_known known pc = rw (P.each pc old.0 old.1) refl in
            let here : potential_given made pc ≡ potential_in numbers pc = rw (P.each pc old.0 old.1) refl in
            let there : potential_given made to ≡ potential_in numbers to = rw (P.each to end.0 end.1) refl in
            rw (instr, row, here, there, same-over image made refl old.0.instr (row_known known pc) branch (potential_in numbers to)) this;
        returns = λ pc point within there.
            let old = point-at pc point there in
            let is = same_Some point _ (sym there ∙ P.each pc old.0 old.1) in
            let here : potential_given made pc ≡ potential_in numbers pc = rw (P.each pc old.0 old.1) refl in
            let this = paid.returns pc old.0 (record { above = within.above; below = within.below }) old.1 in
            rw here (subst (λ (i : Instr). return_steps i ≤ slice_index numbers.steps pc) (sym (ap (λ (x : Point). x.instr) is)) this);
      }
    where
      point-at : (pc : ℕ) (point : Point) → slice_get points pc ≡ Some point → (old : Point) × (slice_get image.points pc ≡ Some old)
      point-at pc point there = item_at image.points pc (let in_points = slice_get_within points pc point there in
          let len = P.len in omega (arith, in_points, len))
