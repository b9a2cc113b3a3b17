-- Places wait once each, so that there is room for those that do not.
use Rattle.std.proofs.Common.{◌≡◌, ◌≤◌, ◌<◌, ℕ, ◌+◌, Bool, true, false, List, length, sym, ap, ◌∙◌, arith, inl, inr}
use Rattle.std.specs.Prelude.{slice_index_or, slice_set, cond}
use Rattle.std.specs.List.{count_by}
use Rattle.std.proofs.lemmas.Bool.{cases_eq, false≢true}
use Rattle.std.proofs.lemmas.List.{length-set, get_or-set_same, get_or-set_other}
use Rattle.std.proofs.lemmas.List.Sums.{count_by-le-length, sum_by-set}
use Rattle.control_graph.specs.declared.place.Place.{Place}

abbrev waiting : List Bool → ℕ
waiting has = count_by (λ (waits : Bool). waits) has

abbrev ones : Bool → ℕ
ones waits = cond waits 1 0

few-ones : (waits : Bool) → ones waits ≤ 1
few-ones true = omega arith
few-ones false = omega arith

changed : (has : List Bool) (pc : ℕ) (next : Bool) → pc < length has
    → waiting (slice_set has pc next) + ones (slice_index_or has pc false) ≡ waiting has + ones next
changed has pc next inside = sum_by-set ones has pc next false inside

-- one more waits that did not
pub one-more : (has : List Bool) (pc : ℕ) → pc < length has → slice_index_or has pc false ≡ false
    → waiting has + 1 ≤ waiting (slice_set has pc true)
one-more has pc inside is =
    let all : waiting (slice_set has pc true) + ones (slice_index_or has pc false) ≡ waiting has + 1 = changed has pc true inside in
    let none : ones (slice_index_or has pc false) ≡ 0 = ap ones is in
    omega (arith, all, none)

-- where one does not wait, not all do
pub some-room : (has : List Bool) (pc : ℕ) → pc < length has → slice_index_or has pc false ≡ false → waiting has < length has
some-room has pc inside is =
    let more = one-more has pc inside is in
    let few : waiting (slice_set has pc true) ≤ length (slice_set has pc true) =
    count_by-le-length (λ (waits : Bool). waits) (slice_set has pc true) in
    let same : length (slice_set has pc true) ≡ length has = length-set has pc true in
    omega (arith, more, few, same)

-- at most one less does where one is taken
pub one-less : (has : List Bool) (pc : ℕ) → pc < length has → waiting has ≤ waiting (slice_set has pc false) + 1
one-less has pc inside =
    let all : waiting (slice_set has pc false) + ones (slice_index_or has pc false) ≡ waiting has + 0 = changed has pc false inside in
    let few = few-ones (slice_index_or has pc false) in
    omega (arith, all, few)

-- those that wait are among the first so many of these places
abbrev pub AreAmong : List Place → List Bool → ℕ → Type 0
AreAmong places has count = (pc : ℕ) → slice_index_or has pc false ≡ true
    → ((x : ℕ) (other : Place) → x < count → (slice_index_or places x other).pc ≡ pc → ⊥) → ⊥

-- so they are with one more
pub among-more : (places next : List Place) (has after : List Bool) (count : ℕ) (place : Place) → count < length places
    → next ≡ slice_set places count place → after ≡ slice_set has place.pc true → AreAmong places has count → AreAmong next after (count + 1)
among-more places next has after count place inside put is among pc waits none = elim (cases_eq pc place.pc) [
  | inl same ↦ none count place (omega arith) (ap (λ (xs : List Place). (slice_index_or xs count place).pc) put
      ∙ ap (λ (x : Place). x.pc) (get_or-set_same places count place place inside) ∙ sym same)
  | inr ne ↦
      let before : slice_index_or has pc false ≡ true =
      sym (ap (λ (xs : List Bool). slice_index_or xs pc false) is ∙ get_or-set_other has place.pc pc true false ne) ∙ waits in
      among pc before (λ x other lt there. none x other (omega arith) (ap (λ (xs : List Place). (slice_index_or xs x other).pc) put
      ∙ ap (λ (y : Place). y.pc) (get_or-set_other places count x place other (λ e. omega arith)) ∙ there))
]

-- and without the last one
pub among-less : (places : List Place) (has after : List Bool) (count : ℕ) (place : Place) → place.pc < length has
    → ((other : Place) → place ≡ slice_index_or places count other) → after ≡ slice_set has place.pc false → AreAmong places has (count + 1)
    → AreAmong places after count
among-less places has after count place inside last is among pc waits none = elim (cases_eq pc place.pc) [
  | inl same ↦
      let gone : slice_index_or after pc false ≡ false =
      ap (λ (xs : List Bool). slice_index_or xs pc false) is ∙ ap (λ (n : ℕ). slice_index_or (slice_set has place.pc false) n false) same
      ∙ get_or-set_same has place.pc false false inside in
      false≢true (sym gone ∙ waits)
  | inr ne ↦
      let before : slice_index_or has pc false ≡ true =
      sym (ap (λ (xs : List Bool). slice_index_or xs pc false) is ∙ get_or-set_other has place.pc pc false false ne) ∙ waits in
      among pc before (λ x other lt there. elim (cases_eq x count) [
        | inl top ↦ ne (sym there ∙ ap (λ (n : ℕ). (slice_index_or places n other).pc) top ∙ ap (λ (y : Place). y.pc) (sym (last other)))
        | inr below ↦ none x other (omega arith) there
      ])
]
