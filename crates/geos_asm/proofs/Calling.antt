-- The search for calls of routines that do not come before the calling routine.
use Rattle.std.proofs.Common.{◌≡◌, ◌∙◌, ◌<◌, ◌≤◌, ◌+◌, ℕ, true, false, length, Some, slice_get, refl, sym, ap, subst, inl, inr, arith}
use Rattle.std.specs.Prelude.{IfSome}
use Rattle.std.proofs.lemmas.Bool.{cases_lt, le-leb, lt-ltb}
use Rattle.std.proofs.lemmas.Option.{same_Some, slice_get_cases, slice_get_within}
use Rattle.geos_image.specs.declared.instr.Instr.{Instr}
use Rattle.geos_image.specs.declared.point.Point.{Point}
use Rattle.geos_image.specs.declared.routine.Routine.{Routine}
use Rattle.geos_image.specs.Parts.{Parts, start_of}
use Rattle.geos_verify.specs.Rules.{has_place}
use Rattle.geos_verify.proofs.Places.{if_some, place_bounds}
use Rattle.geos_asm.specs.Calls.{calls_on, CallsOnAt, CallBefore, CallBeforeIn}

-- an instruction of routine r calls so
pub calls-on-at : (image : Parts) (r pc : ℕ) (routine : Routine) (i : Instr) → slice_get image.routines r ≡ Some routine
    → start_of image.routines r ≤ pc → pc < start_of image.routines r + routine.count → pc < length image.points
    → IfSome (slice_get image.points pc) (λ point. i ≡ point.instr) → calls_on r i ≡ true → CallsOnAt image pc
calls-on-at image r pc routine i there from below within instr on = elim (slice_get_cases image.points pc).1 [
  | inl at ↦
      (let is : i ≡ at.0.instr = if_some (λ (point : Point). i ≡ point.instr) (slice_get image.points pc) at.0 at.2 instr in
      let start = start_of image.routines r in
      let inside : has_place start routine.count pc ≡ true = rw (le-leb start pc from, lt-ltb pc (start + routine.count) below) refl in
      record {
        r = r;
        point = at.0;
        has = record { routine = routine; there = there; within = inside; read = at.2 };
        on = ap (calls_on r) (sym is) ∙ on;
      })
  | inr past ↦ absurd (omega (arith, within, past))
]

-- one more instruction does not
pub none-more : (image : Parts) (r start n : ℕ) (i : Instr)
    → ((pc : ℕ) (point : Point) → start ≤ pc → pc < n → slice_get image.points pc ≡ Some point → calls_on r point.instr ≡ false)
    → IfSome (slice_get image.points n) (λ point. i ≡ point.instr) → calls_on r i ≡ false
    → (pc : ℕ) (point : Point) → start ≤ pc → pc < n + 1 → slice_get image.points pc ≡ Some point → calls_on r point.instr ≡ false
none-more image r start n i before instr not_so pc point from below there = elim (cases_lt pc n) [
  | inl less ↦ before pc point from less there
  | inr past ↦
      let same : pc ≡ n = omega (arith, below, past) in
      let here = subst (λ k. slice_get image.points k ≡ Some point) same there in
      let is : i ≡ point.instr = if_some (λ (p : Point). i ≡ p.instr) (slice_get image.points n) point here instr in
      ap (calls_on r) (sym is) ∙ not_so
]

-- no instruction of routine r does
pub none-in : (image : Parts) (r n : ℕ) (routine : Routine) → slice_get image.routines r ≡ Some routine
    → start_of image.routines r + routine.count ≤ n
    → ((pc : ℕ) (point : Point) → start_of image.routines r ≤ pc → pc < n → slice_get image.points pc ≡ Some point
    → calls_on r point.instr ≡ false)
    → CallBeforeIn image r
none-in image r n routine there all none pc point has =
    let same : has.routine ≡ routine = same_Some has.routine routine (sym has.there ∙ there) in
    let bounds = place_bounds (start_of image.routines r) has.routine.count pc has.within in
    let count : has.routine.count ≡ routine.count = ap (λ (x : Routine). x.count) same in
    none pc point bounds.0 (omega (arith, bounds.1, count, all)) has.read

-- none of one more routine does
pub none-of-more : (image : Parts) (n : ℕ) → ((r : ℕ) → r < n → CallBeforeIn image r) → CallBeforeIn image n
    → (r : ℕ) → r < n + 1 → CallBeforeIn image r
none-of-more image n before here r less = elim (cases_lt r n) [
  | inl below ↦ before r below
  | inr past ↦ let same : n ≡ r = omega (arith, less, past) in subst (CallBeforeIn image) same here
]

-- none of all routines does
pub none-of-all : (image : Parts) (n : ℕ) → length image.routines ≤ n → ((r : ℕ) → r < n → CallBeforeIn image r) → CallBefore image
none-of-all image n all before r pc point has =
    let within = slice_get_within image.routines r has.routine has.there in
    before r (omega (arith, within, all)) pc point has
