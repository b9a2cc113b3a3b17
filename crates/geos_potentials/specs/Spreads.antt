-- The origins of numbers of counters that spread along edges.
use Rattle.std.specs.Prelude.{◌≡◌, ◌≤◌, ◌<◌, ℕ, Bool, true, false, List, Option, Some}
use Rattle.control_graph.specs.declared.arcs.Arc.{Arc}
use Rattle.control_graph.specs.declared.arcs.Counting.{Counting}
use Rattle.control_graph.specs.Arcs.{arc_at, forgets}
use Rattle.geos_potentials.specs.Arcs.{unit_at}
use Rattle.geos_potentials.specs.Demands.{IsKeptOver}

-- a number of counter k at a pc is the old number at a pc from `low` on, from which a path that does not change k
-- leads here
pub record HasCome (arcs : List (List (Option Arc))) (low : ℕ) (old : List (List ℕ)) (pc k n : ℕ) : Type 0 where
  pub from : ℕ
  pub above : low ≤ from
  pub branches : List Bool
  pub way : IsKeptOver arcs k from branches pc
  pub is : n ≡ unit_at old from k

-- each number that is not 0, at pcs from `low` on, has come so from an old one
abbrev pub HaveCome : List (List (Option Arc)) → ℕ → List (List ℕ) → List (List ℕ) → Type 0
HaveCome arcs low old next = (pc k : ℕ) → low ≤ pc → 0 < unit_at next pc k → HasCome arcs low old pc k (unit_at next pc k)

-- the numbers have still come along such edges after the numbers at a pc have moved along its edges
abbrev pub StayCome : List (List (Option Arc)) → ℕ → List (List ℕ) → List (List ℕ) → Type 0
StayCome arcs pc old next = (low : ℕ) (first : List (List ℕ)) → low ≤ pc → HaveCome arcs low first old → HaveCome arcs low first next

-- an edge from one of these places to the next instruction does this to the counters, and a path that does not change
-- k leads from its end to a pc
pub record ComesBehind (arcs : List (List (Option Arc))) (place : ℕ → Type 0) (does : Counting → Type 0) (pc k : ℕ) : Type 0 where
  pub at : ℕ
  pub here : place at
  pub arc : Arc
  pub read : arc_at arcs at false ≡ Some arc
  pub done : does arc.counting
  pub branches : List Bool
  pub way : IsKeptOver arcs k arc.to branches pc

-- what an edge does to a counter that has this number after the edge
abbrev pub Does : Type 1
Does = ℕ → ℕ → Counting → Type 0

-- each number that is not 0, at pcs from `low` on, has come from the end of such an edge
abbrev pub ComeBehind : List (List (Option Arc)) → ℕ → (ℕ → Type 0) → Does → List (List ℕ) → Type 0
ComeBehind arcs low place does spread = (pc k : ℕ) → low ≤ pc → 0 < unit_at spread pc k
    → ComesBehind arcs place (does k (unit_at spread pc k)) pc k

-- nothing is known of the counter after the edge
abbrev pub ForgetsIt : Does
ForgetsIt k n counting = forgets counting k ≡ true

-- a path that does not change k leads from `low` to each pc from `low` on at which the number of k is not 0
abbrev pub ComeFrom : List (List (Option Arc)) → ℕ → List (List ℕ) → Type 0
ComeFrom arcs low spread = (pc k : ℕ) → low ≤ pc → 0 < unit_at spread pc k → (branches : List Bool) × IsKeptOver arcs k low branches pc
