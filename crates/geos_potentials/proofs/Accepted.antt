-- What is known of an image that is accepted, and has the code of another.
use Rattle.std.proofs.Common.{◌≡◌, ℕ, zero, suc, ◌+◌, ◌*◌, ◌<◌, ◌≤◌, Bool, true, List, [], ◌∷◌, length, map, take, Some, None, slice_get, refl, sym, ap, ◌∙◌, subst, arith, drop, Option}
use Rattle.std.specs.Prelude.{◌&&◌, nat_le, slice_index, slice_set, ◌||◌, ◌==◌}
use Rattle.std.proofs.lemmas.Bool.{and_parts, leb-true}
use Rattle.std.proofs.lemmas.Option.{slice_get_within, get_or_from_slice_get, same_Some}
use Rattle.geos_opcodes.specs.declared.opcode.Opcode.{Opcode}
use Rattle.geos_opcodes.specs.declared.opcode.Opcode.TheVariants.{Setk, Setkw, Loop, Call}
use Rattle.geos_image.specs.declared.instr.Instr.{Instr}
use Rattle.geos_image.specs.declared.row.Row.{Row}
use Rattle.geos_image.specs.declared.potential.Potential.{Potential}
use Rattle.geos_image.specs.declared.routine.Routine.{Routine}
use Rattle.geos_image.specs.Parts.{Parts, start_of}
use Rattle.geos_image.specs.Ranges.{PointFits, PotentialFits}
use Rattle.geos_verify.specs.Lists.{all2}
use Rattle.geos_verify.specs.Places.{places}
use Rattle.geos_verify.specs.Rows.{bound}
use Rattle.geos_verify.specs.Potentials.{pays, pays_setting, pays_calling, budget_of, pays_along}
use Rattle.geos_verify.specs.Touched.{calls, touched_by, counts, points_of, touches_here, touches_within, touches}
use Rattle.geos_verify.specs.Rules.{HasPoint}
use Rattle.geos_verify.proofs.Places.{place_true, point-of as find-point}
use Rattle.geos_code.specs.Code.{IsPcOf, SameCode, instrs_of, instr_of}
use Rattle.geos_code.proofs.Ends.{place-code-at, code-at, ends-at}
use Rattle.geos_potentials.proofs.Asks.{called}
use Rattle.std.specs.List.{list_any}
use Rattle.std.proofs.lemmas.List.{take-map, drop-map}
use Rattle.geos_image.specs.declared.point.Point.{Point}
use Rattle.geos_verify.specs.declared.place.Place.{Place as Known}
use Rattle.geos_verify.proofs.Leads.{point_at}
use Rattle.geos_potentials.specs.Accepted.{HasAccepted}

-- Steps

setting-steps : (k n : ℕ) (p q : Potential) → pays_setting k n p q ≡ true → q.constant + 1 + 0 ≤ p.constant
setting-steps k n p q h =
    let a = and_parts (nat_le (q.constant + 1 + slice_index q.coefficients k * n) p.constant)
    (all2 nat_le (slice_set q.coefficients k 0) p.coefficients) h in
    let le = leb-true (q.constant + 1 + slice_index q.coefficients k * n) p.constant a.0 in
    omega arith

pub pays-steps : (p q : Potential) → pays p q ≡ true → q.constant + 1 + 0 ≤ p.constant
pays-steps p q h =
    let le = leb-true (q.constant + 1) p.constant
    ((and_parts (nat_le (q.constant + 1) p.constant) (all2 nat_le q.coefficients p.coefficients) h).0) in
    omega arith

calling-steps : (budget : ℕ) (touched : List Bool) (p q : Potential) → pays_calling budget touched p q ≡ true → q.constant + 1 + budget ≤ p.constant
calling-steps budget touched p q h =
    let a = and_parts (nat_le (q.constant + 1 + budget) p.constant && all2 nat_le q.coefficients p.coefficients) _ h in
    leb-true (q.constant + 1 + budget) p.constant
    ((and_parts (nat_le (q.constant + 1 + budget) p.constant) (all2 nat_le q.coefficients p.coefficients) a.0).0)

pub along-steps : (image : Parts) (i : Instr) (opcode : Opcode) (row : Row) (p q : Potential) → pays_along image i opcode row p q ≡ true
    → q.constant + 1 + called image i opcode ≤ p.constant
along-steps image i Setk row p q h = setting-steps i.a i.imm p q h
along-steps image i Setkw row p q h = setting-steps i.a (bound row i.b) p q h
along-steps image i Loop row p q h = setting-steps i.a 0 p q h
along-steps image i Call row p q h = calling-steps (budget_of image i.imm) (touched_by image i.imm) p q h
along-steps image i _ row p q h = pays-steps p q h

-- The code determines which counters a routine touches

list_any-map : (g : Instr → Bool) (points : List Point) → list_any (λ point. g point.instr) points ≡ list_any g (map instr_of points)
list_any-map g [] = refl
list_any-map g (point ∷ points) = ap (λ (b : Bool). g point.instr || b) (list_any-map g points)

list_any-same : (f g : Instr → Bool) (code : List Instr) → ((i : Instr) → f i ≡ g i) → list_any f code ≡ list_any g code
list_any-same f g [] same = refl
list_any-same f g (i ∷ code) same = rw (same i, list_any-same f g code same) refl

-- the instructions of a routine
abbrev code_of : List Routine → List Instr → ℕ → List Instr
code_of routines code r = elim (slice_get routines r) [ None ↦ [] | Some routine ↦ take routine.count (drop (start_of routines r) code) ]

points-code : (image : Parts) (r : ℕ) → map instr_of (points_of image r) ≡ code_of image.routines (instrs_of image) r
points-code image r = by_routine (slice_get image.routines r)
  where
    by_routine : (o : Option Routine)
        → map instr_of (elim o [ None ↦ [] | Some routine ↦ take routine.count (drop (start_of image.routines r) image.points) ])
        ≡ elim o [ None ↦ [] | Some routine ↦ take routine.count (drop (start_of image.routines r) (instrs_of image)) ]
    by_routine None = refl
    by_routine (Some routine) =
        sym (take-map instr_of routine.count (drop (start_of image.routines r) image.points))
        ∙ ap (take routine.count) (sym (drop-map instr_of (start_of image.routines r) image.points))

touches-within : (image other : Parts) → SameCode image other → (depth k r : ℕ) → touches_within depth other k r ≡ touches_within depth image k r
touches-within image other same zero k r = refl
touches-within image other same (suc depth) k r =
    let f : Instr → Bool = touches_here (touches_within depth other k) k in
    let g : Instr → Bool = touches_here (touches_within depth image k) k in
    let equal : (i : Instr) → f i ≡ g i = λ i. ap (λ (b : Bool). (counts i.opcode && i.a == k) || (calls i.opcode && b))
    (touches-within image other same depth k i.imm) in
    let code : code_of other.routines (instrs_of other) r ≡ code_of image.routines (instrs_of image) r =
    ap (λ (routines : List Routine). code_of routines (instrs_of other) r) same.routines
    ∙ ap (λ (code : List Instr). code_of image.routines code r) same.instrs in
    list_any-map f (points_of other r) ∙ ap (list_any f) (points-code other r) ∙ ap (list_any f) code
    ∙ list_any-same f g (code_of image.routines (instrs_of image) r) equal
    ∙ ap (list_any g) (sym (points-code image r)) ∙ sym (list_any-map g (points_of image r))

pub touches-same : (image other : Parts) → SameCode image other → (k r : ℕ) → touches other k r ≡ touches image k r
touches-same image other same k r =
    ap (λ (routines : List Routine). touches_within (length routines) other k r) same.routines
    ∙ touches-within image other same (length image.routines) k r

-- Instructions

module _ (image : Parts) (has : HasAccepted image) (r : ℕ) (routine : Routine) (there : slice_get has.other.routines r ≡ Some routine) where
  -- an instruction is the same in the image that is accepted
  pub same-instr : (pc : ℕ) (old : Point) (point : Known) → slice_get image.points pc ≡ Some old
      → slice_get (places has.other) pc ≡ Some point → point.instr ≡ old.instr
  same-instr pc old point read at =
      same_Some point.instr old.instr (sym (place-code-at has.other pc point at) ∙ ap (λ (code : List Instr). slice_get code pc) has.same.instrs
      ∙ code-at image pc old read)

  pub point-of : (pc : ℕ) → IsPcOf image r pc → (point : Known) × HasPoint has.other r routine pc point
  point-of pc within =
      let low : start_of has.other.routines r ≤ pc = subst (λ (routines : List Routine). start_of routines r ≤ pc)
      (sym has.same.routines) within.above in
      let high : pc < start_of has.other.routines (r + 1) = subst (λ (routines : List Routine). pc < start_of routines (r + 1))
      (sym has.same.routines) within.below in
      let end = ends-at has.other.routines r routine there in
      point_at has.other.keyed has.other r routine pc has.checked.0 there
      (place_true (start_of has.other.routines r) routine.count pc low (omega (arith, high, end)))

  pub four-at : (pc : ℕ) (place : Known) → slice_get (places has.other) pc ≡ Some place → PotentialFits place.potential
  four-at pc place read =
      let found = find-point has.other pc place read in
      let fitting : PointFits found.0 = subst PointFits (get_or_from_slice_get has.other.points pc found.0 found.0 found.1)
      (has.fits.points pc found.0 (slice_get_within has.other.points pc found.0 found.1)) in
      subst PotentialFits (sym found.2.potential) fitting.potential
