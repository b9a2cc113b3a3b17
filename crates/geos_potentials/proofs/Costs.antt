-- Ways that are noted.
use Rattle.std.proofs.Common.{◌≡◌, ◌≤◌, ◌<◌, ◌⊎◌, ℕ, List, length, Option, get_or, set, sym, ap, ◌∙◌, subst, arith, inl, inr}
use Rattle.std.proofs.lemmas.Bool.{cases_eq, cases_lt}
use Rattle.std.proofs.lemmas.List.{get_or_past, get_or-set_same, get_or-set_other, set_past}
use Rattle.geos_potentials.specs.Least.{no_way, steps_at, PayAll, AtMost, StayAtMost}
use Rattle.geos_potentials.specs.declared.lengths.Link.{Link}
use Rattle.geos_potentials.specs.declared.lengths.Lengths.{Lengths}
use Rattle.geos_potentials.specs.declared.lengths.Way.{Way}

-- a way that is new takes no more steps than these, nor do others
pub ends-more : (ways : List Way) (p : ℕ) (way : Way) (want : ℕ → ℕ) (pc : ℕ) → way.steps ≤ want p
    → ((pc ≡ p → ⊥) → steps_at ways pc ≤ want pc) → steps_at (set ways p way) pc ≤ want pc
ends-more ways p way want pc less others = elim (cases_eq pc p) [
  | inl same ↦ subst (λ (n : ℕ). steps_at (set ways p way) n ≤ want n) (sym same) (here (cases_lt p (length ways)))
  | inr ne ↦
      let other : steps_at (set ways p way) pc ≡ steps_at ways pc = ap (λ (x : Way). x.steps) (get_or-set_other ways p pc way no_way ne) in
      let before = others ne in
      omega arith
]
  where
    here : (p < length ways) ⊎ (length ways ≤ p) → steps_at (set ways p way) p ≤ want p
    here (inl within) =
        let is : steps_at (set ways p way) p ≡ way.steps = ap (λ (x : Way). x.steps) (get_or-set_same ways p way no_way within) in
        omega arith
    here (inr past) =
        let none : steps_at (set ways p way) p ≡ 0 = ap (λ (x : Way). x.steps)
        (ap (λ (xs : List Way). get_or xs p no_way) (set_past ways p way past) ∙ get_or_past ways p no_way past) in
        omega arith

pub at_most-set : (ways : List Way) (p : ℕ) (way : Way) (want : ℕ → ℕ) → AtMost ways want → way.steps ≤ want p → AtMost (set ways p way) want
at_most-set ways p way want most less pc = ends-more ways p way want pc less (λ ne. most pc)

-- ways stay at most what pays for edges, when they have grown once more
pub stay-on : (first now looked next : Lengths) → now.links ≡ first.links → StayAtMost first.links first.ways now.ways
    → looked ≡ now → next.links ≡ looked.links → StayAtMost looked.links looked.ways next.ways
    → (next.links ≡ first.links) × StayAtMost first.links first.ways next.ways
stay-on first now looked next links most same kept more =
    let all : looked.links ≡ first.links = ap (λ (x : Lengths). x.links) same ∙ links in (
      kept ∙ all,
      λ want pays before. more want (subst (λ (xs : List (List (Option Link))). PayAll xs want) (sym all) pays)
          (subst (λ (x : Lengths). AtMost x.ways want) (sym same) (most want pays before)),
    )
