-- Rows that are found hold where control reaches, and the rules on rows pass there.
use Rattle.std.proofs.Common.{◌≡◌, ℕ, ◌+◌, Bool, true, false, not, List, [], ◌∷◌, Option, Some, None, slice_get, get_or, refl, sym, ap, ◌∙◌, subst, arith}
use Rattle.std.specs.Prelude.{◌&&◌, option_map}
use Rattle.std.proofs.lemmas.Bool.{or_parts, not-false}
use Rattle.std.proofs.lemmas.List.{length-map}
use Rattle.std.proofs.lemmas.Option.{slice_get-map, slice_get_within}
use Rattle.geos_image.specs.declared.instr.Instr.{Instr}
use Rattle.geos_image.specs.declared.row.Row.{Row}
use Rattle.geos_image.specs.declared.potential.Potential.{Potential}
use Rattle.geos_image.specs.declared.routine.Routine.{Routine}
use Rattle.geos_image.specs.declared.point.Point.{Point}
use Rattle.geos_image.specs.Parts.{Parts, start_of}
use Rattle.geos_image.specs.Keys.{falls_through, branches}
use Rattle.geos_verify.specs.declared.place.Place.{Place}
use Rattle.geos_verify.specs.Places.{places, at_place}
use Rattle.geos_verify.specs.Rows.{row_along, row_branching, fits, has_edge}
use Rattle.geos_verify.specs.Rules.{has_place, names_empty_slot, leaves_routine, misfits_at, edge_misfits, HasPoint}
use Rattle.geos_verify.proofs.Places.{item_at, place_bounds, places-length, given-place}
use Rattle.geos_code.specs.Code.{Edge, IsPcOf, instr_of, instrs_of, edge_end, edge_row}
use Rattle.geos_code.specs.Known.{clean, row_of, known_at}
use Rattle.geos_rows.specs.Flow.{KnownAt}
use Rattle.geos_potentials.specs.Numbers.{Numbers}
use Rattle.geos_infer.specs.Points.{PointsOf}
use Rattle.geos_infer.specs.Theorem.{with_points}
use Rattle.geos_rows.specs.Reached.{LeadWithin, IsReached, HoldWhereReached, row_in, rows_of, RowRulesPass, FitWhereReached}
use Rattle.geos_infer.proofs.Accepting.{at-place-true}
use Rattle.geos_code.proofs.Cleaning.{clean-least}
use Rattle.geos_code.proofs.Ends.{place-code-at, same-edge, map-get, ends-at}
use Rattle.geos_verify.proofs.RowsFit.{fits-trans}
use Rattle.geos_verify.proofs.Passing.{neither, not-both, second-false, true-not}

-- The image that is made of them

-- the row at a place that nothing reaches names no slot
strongest-clean : names_empty_slot (row_of None) ≡ false
unfolding names_empty_slot
strongest-clean = refl

row-clean : (o : Option Row) → names_empty_slot (row_of o) ≡ false
row-clean None = strongest-clean
row-clean (Some row) = (clean-least row).clean

-- a row that fits what is known fits the row there
known-fits : (known : List (Option Row)) (pc : ℕ) (row : Row) → KnownAt known pc row → fits row (row_of (known_at known pc)) ≡ true
known-fits known pc row K =
    let is : row_of (known_at known pc) ≡ clean K.known_row = ap row_of K.read in
    subst (λ (x : Row). fits row x ≡ true) (sym is) (fits-trans row K.known_row (clean K.known_row) K.fits ((clean-least K.known_row).weaker))

some-place : (x y : Place) → Some x ≡ Some y → x ≡ y
some-place x y e = cc

module _ (image : Parts) (known : List (Option Row)) (numbers : Numbers) (points : List Point)
    (P : PointsOf image known numbers points) (codes : instrs_of (with_points image points) ≡ instrs_of image) (r : ℕ) where
  row-at : (pc : ℕ) (row : Row) → slice_get (rows_of (with_points image points)) pc ≡ Some row → row_of (known_at known pc) ≡ row
  row-at pc row e =
      let found = map-get row_in (places (with_points image points)) pc row e in
      let lt = slice_get_within (places (with_points image points)) pc found.0 found.1 in
      let len = P.len in
      let old = item_at image.points pc (omega (arith, places-length (with_points image points))) in
      let potential : Potential = record { constant = get_or numbers.steps pc 0; coefficients = get_or numbers.coefficients pc [] } in
      let made : Place = record { instr = old.0.instr; row = row_of (known_at known pc); potential = potential } in
      let there = given-place (with_points image points) pc old.0.instr (row_of (known_at known pc)) potential (P.each pc old.0 old.1) in
      ap row_in (some-place made found.0 (sym there ∙ found.1)) ∙ found.2

  within-same : (pc : ℕ) → IsPcOf (with_points image points) r pc → IsPcOf image r pc
  within-same pc within = record { above = within.above; below = within.below }

  edge-same : (pc to : ℕ) (branch : Bool) (i : Instr) → Edge (instrs_of (with_points image points)) pc branch to i
      → Edge (instrs_of image) pc branch to i
  edge-same pc to branch i edge = subst (λ (code : List Instr). Edge code pc branch to i) codes edge

  lead-same : (edges : List (ℕ × Bool)) (pc : ℕ) → LeadWithin (with_points image points) r edges pc → LeadWithin image r edges pc
  lead-same [] pc lead = lead
  lead-same (edge ∷ edges) pc lead = (lead-same edges edge.0 lead.0, within-same pc lead.1, (lead.2.0, edge-same edge.0 pc edge.1 lead.2.0 lead.2.1))

  -- rows that are made of what fits hold
  pub fit-holds : FitWhereReached image r known → HoldWhereReached (with_points image points) r (rows_of (with_points image points))
  fit-holds F = record {
    len = length-map (places (with_points image points)) row_in ∙ places-length (with_points image points) ∙ sym (length-map points instr_of);
    entry = λ routine row there e. subst (λ (x : Row). fits routine.entry x ≡ true) (row-at (start_of image.routines r) row e)
        (known-fits known (start_of image.routines r) routine.entry (F.entry routine there));
    edges = λ pc to branch i row next reached edge inside e f.
        let there : IsReached image r pc = record { edges = reached.edges; lead = lead-same reached.edges pc reached.lead } in
        let from = F.there pc there in
        let behind = edge_row image i branch (clean from.0) in
        let K = F.edges pc branch there to i from.0 (edge-same pc to branch i edge) (within-same to inside) from.1 in
        let fit : fits behind next ≡ true = subst (λ (x : Row). fits behind x ≡ true) (row-at to next f) (known-fits known to behind K) in
        let is : clean from.0 ≡ row = sym (ap row_of from.1) ∙ row-at pc row e in
        let same : behind ≡ edge_row (with_points image points) i branch row = ap (edge_row image i branch) is
        ∙ sym (same-edge image (with_points image points) refl i branch row) in
        subst (λ (x : Row). fits x next ≡ true) same fit;
    clean = λ pc row within given e. subst (λ (x : Row). names_empty_slot x ≡ false) (row-at pc row e) (row-clean (known_at known pc));
  }

-- If rows hold, the verifier's rules on rows pass

module _ (image : Parts) (r pc : ℕ) (routine : Routine) (point : Place) (holds : HoldWhereReached image r (rows_of image))
    (reached : IsReached image r pc) (at : HasPoint image r routine pc point) where
  placed : (k : ℕ) → has_place (start_of image.routines r) routine.count k ≡ true → IsPcOf image r k
  placed k place =
      let bounds = place_bounds (start_of image.routines r) routine.count k place in
      let end = ends-at image.routines r routine at.there in
      record { above = bounds.0; below = omega (arith, bounds.1) }

  row-there : (k : ℕ) (other : Place) → slice_get (places image) k ≡ Some other → slice_get (rows_of image) k ≡ Some other.row
  row-there k other e = slice_get-map row_in (places image) k ∙ ap (option_map row_in) e

  fits-there : (to : ℕ) (branch : Bool) → has_edge point.instr branch ≡ true → edge_end pc point.instr branch ≡ to
      → has_place (start_of image.routines r) routine.count to ≡ true → misfits_at image to (edge_row image point.instr branch point.row) ≡ false
  unfolding misfits_at
  fits-there to branch has leads place =
      let row = edge_row image point.instr branch point.row in
      let edge : Edge (instrs_of image) pc branch to point.instr = record { read = place-code-at image pc point at.read; has = has; leads = leads } in
      true-not (at_place image to (λ next. fits row next.row))
      (at-place-true image to (λ next. fits row next.row) (slice_get (places image) to) refl (λ next e.
      holds.edges pc to branch point.instr point.row next.row reached edge (placed to place) (row-there pc point at.read) (row-there to next e)))

  edges-pass : leaves_routine routine (start_of image.routines r) pc point.instr ≡ false → edge_misfits image pc point.instr point.row ≡ false
  unfolding leaves_routine edge_misfits
  edges-pass stays =
      let start = start_of image.routines r in
      let i = point.instr in
      let along = row_along image i i.opcode point.row in
      let aside = row_branching i i.opcode point.row in
      let inside = or_parts (falls_through i.opcode && not (has_place start routine.count (pc + 1)))
      (branches i.opcode && not (has_place start routine.count i.target)) stays in
      neither (falls_through i.opcode && misfits_at image (pc + 1) along) (branches i.opcode && misfits_at image i.target aside)
      (not-both (falls_through i.opcode) (misfits_at image (pc + 1) along) (λ falls.
      fits-there (pc + 1) false falls refl (not-false (has_place start routine.count (pc + 1))
      (second-false (falls_through i.opcode) (not (has_place start routine.count (pc + 1))) inside.0 falls))))
      (not-both (branches i.opcode) (misfits_at image i.target aside) (λ goes.
      fits-there i.target true goes refl (not-false (has_place start routine.count i.target)
      (second-false (branches i.opcode) (not (has_place start routine.count i.target)) inside.1 goes))))

  -- the rules on rows pass
  pub rules-pass : RowRulesPass image r routine pc point
  rules-pass = record {
    clean = λ given. holds.clean pc point.row (placed pc at.within) given (row-there pc point at.read);
    entry = λ start. holds.entry routine point.row at.there (ap (slice_get (rows_of image)) (sym start) ∙ row-there pc point at.read);
    edges = edges-pass;
  }
