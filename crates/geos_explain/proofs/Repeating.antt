-- Which refusals are reported only once.
use Rattle.std.proofs.Common.{◌≡◌, ◌∙◌, ◌+◌, ◌<◌, ℕ, zero, suc, Bool, true, false, ◌&&◌, List, [], ◌∷◌, ◌++◌, length, get_or, slice_get, Option, Some, None, refl, sym, ap, subst, inl, inr, arith}
use Rattle.std.specs.Prelude.{◌↔◌, not, is_none, is_some}
use Rattle.geos_explain.proofs.Below.{and_parts, cases_lt, ltb-true, get_or_append_left, same_Some, slice_get_within, get_or-append_seam, Edge, end_in, IsFirstInto, IsInto, Row, Parts, KnownPlace, Rule, places, fits, places-length, fits-trans}
use Rattle.geos_explain.specs.Told.{told_rule}
use Rattle.geos_explain.specs.Uses.{leading_nowhere}
use Rattle.geos_explain.specs.Repeated.{brings, leads_ahead, names_empty_slot, is_of_empty_slot, ComesFromTold, IsRepeated, IsToldBefore, IsToldOnce, RepeatedIsToldBefore, TellsOnce}

module _ (image : Parts) (refused : List (Option Rule)) (row : Row) (pc : ℕ) where
  -- the edges that bring no refusal that was reported
  abbrev others : Edge → ℕ → Bool
  others edge end = not (brings image refused row edge)

  into-other : (edge : Edge) → end_in image edge ≡ Some pc → brings image refused row edge ≡ false → IsInto image others pc edge
  into-other edge ends is = record { ends = ends; is_counted = ap not is }

  each-brings : IsFirstInto image others pc None → (edge : Edge) → end_in image edge ≡ Some pc → brings image refused row edge ≡ true
  each-brings none edge ends = by_test (brings image refused row edge) refl
    where
      by_test : (b : Bool) → brings image refused row edge ≡ b → brings image refused row edge ≡ true
      by_test true is = is
      by_test false is =
          let stands = none.first edge (into-other edge ends is) in
          let no : None ≡ Some stands.0 = stands.1 in absurd cc

  -- the search for another edge and for a forward edge decides the condition
  pub comes-from-told : (other ahead : Option Edge) → IsFirstInto image others pc other → IsFirstInto image leads_ahead pc ahead
      → ((is_none other && is_some ahead) ≡ true) ↔ ComesFromTold image refused row pc
  comes-from-told None (Some edge) no_other first = (
    λ _. record { before = edge; ahead = first.into edge refl; each = each-brings no_other },
    λ _. refl,
  )
  comes-from-told None None no_other none = (
    λ is. absurd cc,
    λ comes. (let stands = none.first comes.before comes.ahead in let no : None ≡ Some stands.0 = stands.1 in absurd cc),
  )
  comes-from-told (Some edge) ahead other first = (
    λ is. absurd cc,
    λ comes.
        let into = other.into edge refl in
        let told = comes.each edge into.ends in
        let not_so : false ≡ true = sym (ap not told) ∙ into.is_counted in absurd cc,
  )

-- the same from the results of the two searches
pub comes-where-none : (image : Parts) (refused : List (Option Rule)) (row : Row) (pc : ℕ) (other ahead : Option Edge)
    → IsFirstInto image (λ edge end. not (brings image refused row edge)) pc other → IsFirstInto image leads_ahead pc ahead
    → is_some other ≡ false → (is_some ahead ≡ true) ↔ ComesFromTold image refused row pc
comes-where-none image refused row pc None ahead no_other first none = comes-from-told image refused row pc None ahead no_other first
comes-where-none image refused row pc (Some edge) ahead other first none = absurd cc

pub comes-where-some : (image : Parts) (refused : List (Option Rule)) (row : Row) (pc : ℕ) (other ahead : Option Edge)
    → IsFirstInto image (λ edge end. not (brings image refused row edge)) pc other → IsFirstInto image leads_ahead pc ahead
    → is_some other ≡ true → (false ≡ true) ↔ ComesFromTold image refused row pc
comes-where-some image refused row pc None ahead no_other first some = absurd cc
comes-where-some image refused row pc (Some edge) ahead other first some = comes-from-told image refused row pc (Some edge) ahead other first

-- if there is no place, nothing is repeated
pub repeated-none : (image : Parts) (refused : List (Option Rule)) (pc : ℕ) → slice_get (places image) pc ≡ None
    → (false ≡ true) ↔ IsRepeated image refused pc
repeated-none image refused pc none = (
  λ is. absurd cc,
  λ repeated. (let both : None ≡ Some repeated.known = sym none ∙ repeated.there in absurd cc),
)

-- adds the rule reported at one more pc
pub one-once : (image : Parts) (refused told : List (Option Rule)) (pc : ℕ) (rule : Option Rule) → length told ≡ pc
    → ((k : ℕ) → k < pc → IsToldOnce image refused k (get_or told k None)) → IsToldOnce image refused pc rule
    → (k : ℕ) → k < pc + 1 → IsToldOnce image refused k (get_or (told ++ rule ∷ []) k None)
one-once image refused told pc rule long before here k lt = elim (cases_lt k pc) [
  | inl less ↦ subst (λ r. IsToldOnce image refused k r) (sym (get_or_append_left told (rule ∷ []) None k (omega (arith, less, long))))
      (before k less)
  | inr past ↦
      let last : length told ≡ k = omega (arith, lt, past, long) in
      let same : pc ≡ k = omega (arith, lt, past) in
      let seam : get_or (told ++ rule ∷ []) k None ≡ rule = ap (λ n. get_or (told ++ rule ∷ []) n None) (sym last) ∙ get_or-append_seam told rule [] None in
      subst (λ r. IsToldOnce image refused k r) (sym seam) (subst (λ n. IsToldOnce image refused n rule) same here)
]

-- an edge that brings a row's pointers comes from an instruction that is refused for them
pub record Brings (image : Parts) (refused : List (Option Rule)) (row : Row) (from : ℕ) : Type 0 where
  known : KnownPlace
  there : slice_get (places image) from ≡ Some known
  is : names_empty_slot refused from ≡ true
  same : fits (leading_nowhere known.row) (leading_nowhere row) ≡ true

brings-from : (image : Parts) (refused : List (Option Rule)) (row : Row) (edge : Edge) → brings image refused row edge ≡ true
    → Brings image refused row edge.from
unfolding brings
brings-from image refused row edge is = by_place (slice_get (places image) edge.from) refl is
  where
    by_place : (found : Option KnownPlace) → slice_get (places image) edge.from ≡ found
        → elim found [ None ↦ false | Some from ↦ names_empty_slot refused edge.from && fits (leading_nowhere from.row) (leading_nowhere row) ] ≡ true
        → Brings image refused row edge.from
    by_place None there is = absurd cc
    by_place (Some known) there is =
        let both = and_parts (names_empty_slot refused edge.from) (fits (leading_nowhere known.row) (leading_nowhere row)) is in
        record { known = known; there = there; is = both.0; same = both.1 }

-- a refusal that is repeated at one of the first n pcs was reported before
told-below : (image : Parts) (refused told : List (Option Rule)) → TellsOnce image refused told → (n pc : ℕ) → pc < n
    → (repeated : IsRepeated image refused pc) → IsToldBefore image told repeated.known.row pc
told-below image refused told once zero pc lt repeated = absurd (omega arith)
told-below image refused told once (suc n) pc lt repeated =
    let row = repeated.known.row in
    let edge = repeated.comes.before in
    let less : edge.from < pc = ltb-true edge.from pc repeated.comes.ahead.is_counted in
    let source = brings-from image refused row edge (repeated.comes.each edge repeated.comes.ahead.ends) in
    let within : edge.from < length image.points =
    omega (arith, slice_get_within (places image) edge.from source.known source.there, places-length image) in
    elim (once.each edge.from within) [
      | inl again ↦
          (let earlier = told-below image refused told once n edge.from (omega arith) again.0 in
          let one : again.0.known ≡ source.known = same_Some again.0.known source.known (sym again.0.there ∙ source.there) in
          let near : fits (leading_nowhere again.0.known.row) (leading_nowhere row) ≡ true = rw one source.same in
          record {
            from = earlier.from;
            less = omega (arith, earlier.less);
            known = earlier.known;
            there = earlier.there;
            is = earlier.is;
            same = fits-trans (leading_nowhere earlier.known.row) (leading_nowhere again.0.known.row) (leading_nowhere row) earlier.same near;
          })
      | inr first ↦ record {
        from = edge.from;
        less = less;
        known = source.known;
        there = source.there;
        is = ap (λ rule. is_of_empty_slot (told_rule rule)) first.1 ∙ source.is;
        same = source.same;
      }
    ]

pub repeated_told : RepeatedIsToldBefore
repeated_told image refused told pc once repeated = told-below image refused told once (suc pc) pc (omega arith) repeated
