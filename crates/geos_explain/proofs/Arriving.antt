-- The pointers that the search finds at a pc do arrive there.
use Rattle.std.proofs.Common.{◌≡◌, ℕ, Bool, true, false, cond, List, [], ◌∷◌, length, replicate, Option, Some, None, slice_get, get_or, set, refl, sym, ap, ◌∙◌, subst, ◌⊎◌, inl, inr}
use Rattle.std.specs.Prelude.{nat_lt}
use Rattle.geos_explain.proofs.Below.{cases_eq, cases_lt, cond_both, get_or-set_same, get_or-set_other, set_past, KnownPlace, places, Pointer, pointer_at, after, has_edge, Edge, end_of, replicate-at, start_of}
use Rattle.geos_explain.specs.Places.{Place, comes_alike}
use Rattle.geos_explain.specs.Ways.{entry_pointer, behind, with_hint}
use Rattle.geos_explain.specs.Lost.{ComesTo, IsHint, AreHints}

-- an element of a changed list is the old element, or the new one at the changed index
set-was : {X : Type 0} (xs : List X) (i k : ℕ) (x d : X) → (get_or (set xs i x) k d ≡ get_or xs k d) ⊎ ((k ≡ i) × (get_or (set xs i x) k d ≡ x))
set-was xs i k x d = elim (cases_lt i (length xs)) [
  | inl within ↦ elim (cases_eq k i) [
    | inl same ↦ inr (same, ap (λ n. get_or (set xs i x) n d) same ∙ get_or-set_same xs i x d within)
    | inr ne ↦ inl (get_or-set_other xs i k x d ne)
  ]
  | inr past ↦ inl (ap (λ ys. get_or ys k d) (set_past xs i x past))
]

-- if a choice between something and nothing returns something, its condition is true
pub cond-some : {X : Type 0} (b : Bool) (o : Option X) (x : X) → cond b o None ≡ Some x → (b ≡ true) × (o ≡ Some x)
cond-some true o x e = (refl, e)
cond-some false o x e = absurd cc

module _ (place : Place) (p : ℕ) where
  -- the empty list of hints is a list of hints
  pub no-hints : AreHints place p (replicate 4096 None)
  no-hints pc = cond_both (nat_lt pc 4096) (get_or (replicate 4096 None) pc None) None (λ o. IsHint place p pc o)
      (λ low. inl (replicate-at None 4096 pc)) (λ high. inl refl)

  -- adding a hint for one pc gives a list of hints again
  pub set-hints : (arrivals : List (Option Pointer)) → AreHints place p arrivals → (pc : ℕ) (pointer : Option Pointer)
      → IsHint place p pc pointer → AreHints place p (set arrivals pc pointer)
  set-hints arrivals hints pc pointer here k = elim (set-was arrivals pc k pointer None) [
    | inl was ↦ subst (λ o. IsHint place p k (cond (nat_lt k 4096) o None)) (sym was) (hints k)
    | inr is ↦ subst (λ o. IsHint place p k (cond (nat_lt k 4096) o None)) (sym is.1)
        (cond_both (nat_lt k 4096) pointer None (λ o. IsHint place p k o) (λ low. subst (λ n. IsHint place p n pointer) (sym is.0) here) (λ high. inl refl))
  ]

  -- what an edge brings is a hint at its end
  pub behind-hint : (edge : Edge) (point : KnownPlace) (hint : Option Pointer) → slice_get (places place.image) edge.from ≡ Some point
      → comes_alike place edge.from ≡ true → IsHint place p edge.from hint
      → IsHint place p (end_of edge point.instr) (behind place.image (record { p = p; hint = hint }) edge point)
  behind-hint edge point hint there alike known = by_hint (behind place.image (record { p = p; hint = hint }) edge point) refl
    where
      by_hint : (o : Option Pointer) → behind place.image (record { p = p; hint = hint }) edge point ≡ o → IsHint place p (end_of edge point.instr) o
      by_hint None e = inl refl
      by_hint (Some q) e =
          let row = with_hint point.row (record { p = p; hint = hint }) in
          let has = cond-some (has_edge point.instr edge.branch) (pointer_at (after place.image edge.from row edge.branch) p) q e in
          let comes : ComesTo place edge (end_of edge point.instr) = record { point = point; there = there; alike = alike; has = has.0; ends = refl } in
          elim known [
            | inl none ↦ inr (q, refl, (edge ∷ [], (comes, (hint, inl none, e))))
            | inr some ↦ inr (q, refl, (edge ∷ some.2.0, (comes, (hint, inr (some.0, some.1, some.2.1), e))))
          ]

  -- what the caller brings is a hint at the routine's first instruction
  pub entry-hint : (pc : ℕ) (pointer : Option Pointer) → pc ≡ start_of place.image.routines place.r → pointer ≡ entry_pointer place.routine p
      → IsHint place p pc pointer
  entry-hint pc None is e = inl refl
  entry-hint pc (Some q) is e = inr (q, refl, ([], (is, sym e)))
