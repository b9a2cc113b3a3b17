-- The entry row of a routine is known where it begins.
use Rattle.std.proofs.Common.{◌≡◌, ◌≢◌, ℕ, ◌+◌, ◌-◌, ◌*◌, ◌<◌, ◌≤◌, Bool, true, false, List, length, Option, Some, None, slice_get, set, sym, ap, ◌∙◌, subst, arith, refl, inl, inr}
use Rattle.std.proofs.lemmas.Bool.{cases_eq, cases_lt}
use Rattle.std.proofs.lemmas.List.{get_or-set_same, get_or-set_other, length-set}
use Rattle.std.proofs.lemmas.Option.{none-some}
use Rattle.geos_image.specs.declared.row.Row.{Row}
use Rattle.geos_image.specs.declared.routine.Routine.{Routine}
use Rattle.geos_image.specs.Parts.{Parts, start_of}
use Rattle.geos_code.specs.Code.{IsPcOf, instrs_of}
use Rattle.geos_code.specs.Known.{known_at}
use Rattle.geos_rows.specs.Flow.{edge_number, Seeded, FitAhead, AllBelow}
use Rattle.geos_rows.specs.Reached.{Copies}
use Rattle.geos_rows.specs.Solutions.{RowsHoldIn}
use Rattle.geos_verify.specs.Rows.{fits}
use Rattle.geos_verify.proofs.RowsFit.{fits-refl}

some-routine : (x y : Routine) → Some x ≡ Some y → x ≡ y
some-routine x y e = cc

-- where nothing is known in a routine but its entry row where it begins
pub seeded : (image : Parts) (r start end : ℕ) (routine : Routine) (empty known : List (Option Row))
    → slice_get image.routines r ≡ Some routine → start ≡ start_of image.routines r → end ≡ start_of image.routines (r + 1)
    → ((pc : ℕ) → start ≤ pc → pc ≤ end - 1 → known_at empty pc ≡ None) → known ≡ set empty start (Some routine.entry)
    → start < length known → length (instrs_of image) ≤ length known → Seeded image r known
seeded image r start end routine empty known there begins ends none is within room = record {
  len = room;
  entry = λ other at.
      let same : routine ≡ other = some-routine routine other (sym there ∙ at) in
      let len = ap length is ∙ length-set empty start (Some routine.entry) in
      ap (known_at known) (sym begins) ∙ ap (λ (all : List (Option Row)). known_at all start) is
      ∙ get_or-set_same empty start (Some routine.entry) None (omega arith) ∙ ap (λ (x : Routine). Some x.entry) same;
  only = λ pc low high.
      let ne : pc ≢ start = (λ same. absurd (omega arith)) in
      ap (λ (all : List (Option Row)). known_at all pc) is ∙ get_or-set_other empty start pc (Some routine.entry) None ne
      ∙ none pc (omega arith) (omega arith);
}

some-row : (x y : Row) → Some x ≡ Some y → x ≡ y
some-row x y e = cc

-- what is known then fits rows that hold
pub seeds-below : (image : Parts) (r : ℕ) (routine : Routine) (want : List Row) (known : List (Option Row))
    → slice_get image.routines r ≡ Some routine → RowsHoldIn image r want → Seeded image r known → AllBelow image r want known
seeds-below image r routine want known there holds S pc row w within e f = elim (cases_lt (start_of image.routines r) pc) [
  | inl later ↦ absurd (none-some row (sym (S.only pc later within.below) ∙ e))
  | inr le ↦
      let same : pc ≡ start_of image.routines r = (let low = within.above in omega arith) in
      let is : routine.entry ≡ row = some-row routine.entry row (sym (S.entry routine there) ∙ ap (known_at known) (sym same) ∙ e) in
      subst (λ (x : Row). fits x w ≡ true) is (holds.entry routine w there (ap (slice_get want) (sym same) ∙ f))
]

-- rows flow from there
pub seeds-fit : (image : Parts) (r : ℕ) (known : List (Option Row)) → Seeded image r known → FitAhead image r known (2 * start_of image.routines r)
seeds-fit image r known S = record {
  len = S.len;
  entry = λ other at. record { known_row = other.entry; read = S.entry other at; fits = fits-refl other.entry };
  edges = λ pc t b i row within inside ahead less edge e. absurd (before pc b within less);
}
  where
    before : (pc : ℕ) (b : Bool) → IsPcOf image r pc → edge_number pc b < 2 * start_of image.routines r → ⊥
    before pc true within less = let low = within.above in omega arith
    before pc false within less = let low = within.above in omega arith

-- Rows of another table

pub copies-none : (start : ℕ) (from known : List (Option Row)) → Copies start start from known known
copies-none start from known = record { len = refl; same = λ pc low high. absurd (omega arith); stays = λ k lt. refl }

-- one more of them is copied
pub copies-more : (start pc more : ℕ) (from known next : List (Option Row)) (o : Option Row) → more ≡ pc + 1 → start ≤ pc
    → pc < length next → o ≡ known_at from pc → Copies start pc from known next → Copies start more from known (set next pc o)
copies-more start pc more from known next o one low within here C = record {
  len = length-set next pc o ∙ C.len;
  same = λ k above below. elim (cases_eq k pc) [
    | inl same ↦ ap (known_at (set next pc o)) same ∙ get_or-set_same next pc o None within ∙ here ∙ ap (known_at from) (sym same)
    | inr ne ↦ get_or-set_other next pc k o None ne ∙ C.same k above (omega arith)
  ];
  stays = λ k lt. let ne : k ≢ pc = (λ same. absurd (omega arith)) in get_or-set_other next pc k o None ne ∙ C.stays k lt;
}

pub copies-to : (start pc end : ℕ) (from known next : List (Option Row)) → end ≤ pc → Copies start pc from known next
    → Copies start end from known next
copies-to start pc end from known next le C = record { len = C.len; same = λ k above below. C.same k above (omega arith); stays = C.stays }
