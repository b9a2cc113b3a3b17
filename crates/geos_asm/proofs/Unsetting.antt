-- The search for LOOPs that take from a counter which nothing sets on a path to them.
use Rattle.std.proofs.Common.{◌≡◌, ◌∙◌, ◌<◌, ◌≤◌, ◌+◌, ℕ, Bool, List, true, false, length, Some, slice_get, refl, sym, ap, subst, inl, inr}
use Rattle.std.proofs.Common.{arith}
use Rattle.std.specs.Prelude.{◌↔◌, ◌&&◌, IfSome}
use Rattle.std.proofs.lemmas.Bool.{and_from, and_parts, cases_lt, le-leb, lt-ltb, true≢false}
use Rattle.std.proofs.lemmas.Option.{same_Some, slice_get_cases, slice_get_within}
use Rattle.geos_image.specs.declared.instr.Instr.{Instr}
use Rattle.geos_image.specs.declared.point.Point.{Point}
use Rattle.geos_image.specs.declared.routine.Routine.{Routine}
use Rattle.geos_image.specs.Parts.{Parts, start_of}
use Rattle.geos_flow.specs.declared.edge.Edge.{Edge}
use Rattle.geos_flow.specs.declared.search.Heading.TheVariants.{Ahead}
use Rattle.geos_flow.specs.Flow.{step_by, Lead, Leads, MarksWhatIsLed}
use Rattle.geos_flow.specs.Marks.{no_marks, marked, is_marked}
use Rattle.geos_flow.proofs.Marked.{has-marked, is-marked, mark-there, mark-was, none-full, none-marked}
use Rattle.geos_verify.specs.Rules.{has_place}
use Rattle.geos_verify.proofs.Places.{if_some, place_bounds}
use Rattle.geos_asm.specs.Unset.{takes, owes_at, IsUnsetAt, MarksUnset, TakesUnset, NoneUnset, NoneUnsetIn, NoneUnsetOf}

-- where one pc was marked, those are that ways lead to from there
pub marks-from : (image : Parts) (counts : Edge → ℕ → Bool) (start : ℕ) (new : List Bool) → start < 4096
    → MarksWhatIsLed (step_by image Ahead counts) (marked no_marks start) new
    → (pc : ℕ) → (is_marked new pc ≡ true) ↔ Leads (step_by image Ahead counts) start pc
marks-from image counts start new low all pc = (
  λ is. (let led = (all pc).0 is in
      let same : led.start ≡ start = elim (mark-was no_marks start led.start (has-marked (marked no_marks start) led.start led.begins)) [
        | inl here ↦ here
        | inr was ↦ absurd (none-marked led.start was)
      ] in
      (led.edges, subst (λ s. Lead (step_by image Ahead counts) s led.edges pc) same led.lead)),
  λ way. (all pc).1 (record {
    start = start;
    begins = is-marked (marked no_marks start) start low (mark-there no_marks start none-full low);
    edges = way.0;
    lead = way.1;
  }),
)

-- an instruction of routine r takes so
pub taken-at : (image : Parts) (r k pc : ℕ) (routine : Routine) (i : Instr) (marks : List Bool) → slice_get image.routines r ≡ Some routine
    → start_of image.routines r ≤ pc → pc < start_of image.routines r + routine.count → pc < length image.points
    → IfSome (slice_get image.points pc) (λ point. i ≡ point.instr) → owes_at image k (start_of image.routines r) ≡ true
    → MarksUnset image (start_of image.routines r) routine.count k marks → (is_marked marks pc && takes i k) ≡ true
    → TakesUnset image r k pc
taken-at image r k pc routine i marks there from below within instr owed led taken = elim (slice_get_cases image.points pc).1 [
  | inl at ↦
      (let is_it : i ≡ at.0.instr = if_some (λ (point : Point). i ≡ point.instr) (slice_get image.points pc) at.0 at.2 instr in
      let start = start_of image.routines r in
      let both = and_parts (is_marked marks pc) (takes i k) taken in
      let inside : has_place start routine.count pc ≡ true = rw (le-leb start pc from, lt-ltb pc (start + routine.count) below) refl in
      record {
        point = at.0;
        has = record { routine = routine; there = there; within = inside; read = at.2 };
        owed = owed;
        way = (led pc).0 both.0;
        does = ap (λ (x : Instr). takes x k) (sym is_it) ∙ both.1;
      })
  | inr past ↦ absurd (omega (arith, within, past))
]

-- what is not marked, or does not take from the counter, does not take so
pub not-taken : (image : Parts) (r k pc : ℕ) (routine : Routine) (i : Instr) (marks : List Bool) → slice_get image.routines r ≡ Some routine
    → IfSome (slice_get image.points pc) (λ point. i ≡ point.instr) → MarksUnset image (start_of image.routines r) routine.count k marks
    → (is_marked marks pc && takes i k) ≡ false → TakesUnset image r k pc → ⊥
not-taken image r k pc routine i marks there instr led not_so taken =
    let same : taken.has.routine ≡ routine = same_Some taken.has.routine routine (sym taken.has.there ∙ there) in
    let way = subst (λ (x : Routine). IsUnsetAt image (start_of image.routines r) x.count k pc) same taken.way in
    let is : i ≡ taken.point.instr = if_some (λ (x : Point). i ≡ x.instr) (slice_get image.points pc) taken.point taken.has.read instr in
    let both = and_from (is_marked marks pc) (takes i k) ((led pc).1 way) (ap (λ (x : Instr). takes x k) is ∙ taken.does) in
    true≢false (sym both ∙ not_so)

-- one more instruction does not take so
pub none-more : (image : Parts) (r k start n : ℕ)
    → ((pc : ℕ) → start ≤ pc → pc < n → TakesUnset image r k pc → ⊥) → (TakesUnset image r k n → ⊥)
    → (pc : ℕ) → start ≤ pc → pc < n + 1 → TakesUnset image r k pc → ⊥
none-more image r k start n before here pc from below taken = elim (cases_lt pc n) [
  | inl less ↦ before pc from less taken
  | inr past ↦ let same : pc ≡ n = omega (arith, below, past) in here (subst (TakesUnset image r k) same taken)
]

-- none of the routine does
pub none-in : (image : Parts) (r k n : ℕ) (routine : Routine) → slice_get image.routines r ≡ Some routine
    → start_of image.routines r + routine.count ≤ n → ((pc : ℕ) → start_of image.routines r ≤ pc → pc < n → TakesUnset image r k pc → ⊥)
    → NoneUnsetOf image r k
none-in image r k n routine there all none pc taken =
    let same : taken.has.routine ≡ routine = same_Some taken.has.routine routine (sym taken.has.there ∙ there) in
    let bounds = place_bounds (start_of image.routines r) taken.has.routine.count pc taken.has.within in
    let count : taken.has.routine.count ≡ routine.count = ap (λ (x : Routine). x.count) same in
    none pc bounds.0 (omega (arith, bounds.1, count, all)) taken

-- where nothing is owed for the counter, none does
pub none-owed : (image : Parts) (r k : ℕ) → owes_at image k (start_of image.routines r) ≡ false → NoneUnsetOf image r k
none-owed image r k none pc taken = true≢false (sym taken.owed ∙ none)

-- none of one more counter does
pub none-of-counter : (image : Parts) (r n : ℕ) → ((k : ℕ) → k < n → NoneUnsetOf image r k) → NoneUnsetOf image r n
    → (k : ℕ) → k < n + 1 → NoneUnsetOf image r k
none-of-counter image r n before here k less = elim (cases_lt k n) [
  | inl below ↦ before k below
  | inr past ↦ let same : n ≡ k = omega (arith, less, past) in subst (NoneUnsetOf image r) same here
]

-- none of one more routine does
pub none-of-more : (image : Parts) (n : ℕ) → ((r : ℕ) → r < n → NoneUnsetIn image r) → NoneUnsetIn image n
    → (r : ℕ) → r < n + 1 → NoneUnsetIn image r
none-of-more image n before here r less = elim (cases_lt r n) [
  | inl below ↦ before r below
  | inr past ↦ let same : n ≡ r = omega (arith, less, past) in subst (NoneUnsetIn image) same here
]

-- none of all routines does
pub none-of-all : (image : Parts) (n : ℕ) → length image.routines ≤ n → ((r : ℕ) → r < n → NoneUnsetIn image r) → NoneUnset image
none-of-all image n all before r k low pc taken =
    let within = slice_get_within image.routines r taken.has.routine taken.has.there in
    before r (omega (arith, within, all)) k low pc taken
