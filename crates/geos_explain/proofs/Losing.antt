-- The search's reason why a pointer is not known is true.
use Rattle.std.proofs.Common.{is_some, ◌≡◌, ◌⊎◌, ℕ, Bool, true, false, List, Option, Some, None, slice_get, refl, sym, subst, inl, inr}
use Rattle.std.specs.Prelude.{IfSome}
use Rattle.geos_explain.proofs.Below.{option_or, KnownPlace, places, after, has_edge, Edge, no_marks, marked, Has, mark-was, none-marked}
use Rattle.geos_explain.specs.declared.ways.Way.{Way}
use Rattle.geos_explain.specs.declared.ways.Way.TheVariants.{Entry, Along}
use Rattle.geos_explain.specs.declared.finding.End.{End}
use Rattle.geos_explain.specs.declared.finding.Meeting.{Meeting}
use Rattle.geos_explain.specs.declared.trace.FirstWays.{FirstWays}
use Rattle.geos_explain.specs.declared.trace.Trace.{Trace}
use Rattle.geos_explain.specs.Places.{Place, comes_alike}
use Rattle.geos_explain.specs.Ways.{empty_slot, empty_along, empty_from, empty_on}
use Rattle.geos_explain.specs.Lost.{LacksFrom, FindsWay, IsBringing, IsWay, NoWay, BringsNowhere, AreWays, IsFinding, IsOpen, IsSound}
use Rattle.geos_explain.proofs.Arriving.{cond-some}

-- the first of two options, if it has a value, otherwise the second
pub either-one : {X : Type 0} (P : X → Type 0) (a b : Option X) → IfSome a P → IfSome b P → IfSome (option_or a b) P
either-one P None b first second = second
either-one P (Some x) b first second = first

-- if neither has a value, the first has none
pub or-none : {X : Type 0} (a b : Option X) → option_or a b ≡ None → a ≡ None
or-none None b is = refl
or-none (Some x) b is = is

pub some-none : {X : Type 0} (a : Option X) → is_some a ≡ true → a ≡ None → ⊥
some-none None is none = absurd cc
some-none (Some x) is none = absurd cc

module _ (place : Place) (p : ℕ) where
  along-nowhere : (slot : ℕ) (edge : Edge) (point : KnownPlace) → slice_get (places place.image) edge.from ≡ Some point
      → empty_from place.image p edge ≡ Some slot
      → empty_slot (after place.image edge.from point.row edge.branch) p ≡ Some slot
  unfolding empty_from
  along-nowhere slot edge point there e =
      let here : empty_along place.image p edge point ≡ Some slot = rw (there, empty_from) at e in
      (cond-some (has_edge point.instr edge.branch) (empty_slot (after place.image edge.from point.row edge.branch) p) slot here).1

  -- an edge or the entry brings a pointer into an empty slot
  pub way-nowhere : (known : Bool) (to slot : ℕ) (way : Way) → IsWay place p known way to → empty_on place p way ≡ Some slot
      → BringsNowhere place p way slot to
  way-nowhere known to slot Entry is e = (is.0, e)
  way-nowhere known to slot (Along edge) is e =
      record { point = is.point; there = is.there; has = is.has; ends = is.ends; empty = along-nowhere slot edge is.point is.there e }

  -- one more pc is passed, from which the pointer can be missing
  pub marks-more : (marks : List Bool) (at : ℕ) → ((pc : ℕ) → Has marks pc → LacksFrom place p pc) → LacksFrom place p at
      → (pc : ℕ) → Has (marked marks at) pc → LacksFrom place p pc
  marks-more marks at passed from pc h =
      elim (mark-was marks at pc h) [ inl same ↦ subst (LacksFrom place p) (sym same) from | inr was ↦ passed pc was ]

  -- the place is open if the search finds neither a join nor an end there
  pub ways-open : (ways : FirstWays) (meeting : Option Meeting) (end : Option End) → ways.to ≡ place.pc → AreWays place p ways
      → (meeting ≡ None → (ways.known ≡ None) ⊎ (ways.lost ≡ None))
      → (end ≡ None → (edge : Edge) × (ways.lost ≡ Some (Along edge)) × (comes_alike place edge.from ≡ true))
      → meeting ≡ None → end ≡ None → IsOpen place p
  ways-open ways meeting end here are met ended no_meeting no_end =
      let edge = ended no_end in
      let lost = subst (λ o. FindsWay place (λ way. IsWay place p false way ways.to) o) edge.1 are.lost in
      let unknown : ways.known ≡ None = elim (met no_meeting) [ inl none ↦ none | inr none ↦ absurd cc ] in
      let none = subst (λ o. FindsWay place (λ way. IsBringing place p ways.to way) o) unknown are.known in
      record {
        none = subst (λ to. NoWay place (λ way. IsBringing place p to way)) here none;
        edge = edge.0;
        lacks = subst (λ to. IsWay place p false (Along edge.0) to) here lost;
        alike = edge.2;
      }

  -- no pc was passed
  pub none-passed : (trace : Trace) → trace.passed ≡ no_marks → IsFinding place p trace.finding → IsSound place p trace
  none-passed trace is finds =
      record { passed = λ pc h. absurd (none-marked pc (subst (λ m. Has m pc) is h)); finds = finds }
