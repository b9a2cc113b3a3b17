-- Which LOOPs require the units of counters.
use Rattle.std.specs.Prelude.{◌≡◌, ◌≢◌, ◌≤◌, ◌<◌, ◌+◌, ◌-◌, ℕ, max, Bool, true, if◌then◌else◌, List, [], ◌∷◌, Option, Some, slice_index}
use Rattle.control_graph.specs.declared.arcs.Arc.{Arc}
use Rattle.control_graph.specs.declared.arcs.Counting.{Counting}
use Rattle.control_graph.specs.declared.arcs.Counting.TheVariants.{Takes}
use Rattle.control_graph.specs.Arcs.{arc_at, keeps}
use Rattle.geos_potentials.specs.Arcs.{unit_at}

-- Numbers of counters at places

-- the numbers of the counters that an edge does not change, and 0 for the others
abbrev pub kept_over : Counting → List ℕ → List ℕ
kept_over counting numbers =
    (if keeps counting 0 then slice_index numbers 0 else 0) ∷ (if keeps counting 1 then slice_index numbers 1 else 0)
    ∷ (if keeps counting 2 then slice_index numbers 2 else 0) ∷ (if keeps counting 3 then slice_index numbers 3 else 0) ∷ []

-- the numbers at a place are at least these next, and no more than that, and those elsewhere are the same
pub record AreRaised (old next : List (List ℕ)) (pc : ℕ) (numbers : List ℕ) : Type 0 where
  pub here : (k : ℕ) → unit_at next pc k ≡ max (unit_at old pc k) (slice_index numbers k)
  pub others : (at k : ℕ) → at ≢ pc → unit_at next at k ≡ unit_at old at k

-- no number is less next
abbrev pub HaveGrown : List (List ℕ) → List (List ℕ) → Type 0
HaveGrown old next = (pc k : ℕ) → unit_at old pc k ≤ unit_at next pc k

-- by how much numbers of 32 bits can still grow
abbrev pub left_at : List ℕ → ℕ
left_at [] = 0
left_at (n ∷ numbers) = (4294967295 - n) + left_at numbers

-- by how much the numbers of all places can still grow
abbrev pub left_in : List (List ℕ) → ℕ
left_in [] = 0
left_in (numbers ∷ places) = left_at numbers + left_in places

-- Which LOOPs require them

-- a path of arcs that do not change counter k leads from one pc to another; each flag says whether an arc leads to a
-- target
abbrev pub IsKeptOver : List (List (Option Arc)) → ℕ → ℕ → List Bool → ℕ → Type 0
IsKeptOver arcs k from [] to = from ≡ to
IsKeptOver arcs k from (branch ∷ branches) to = (arc : Arc) × (arc_at arcs from branch ≡ Some arc) × (keeps arc.counting k ≡ true)
    × IsKeptOver arcs k arc.to branches to

-- a path on which counter k does not change leads from the pc to a LOOP on k, where one unit of k pays for at least n
-- steps
pub record IsWanted (arcs : List (List (Option Arc))) (pay : List (List ℕ)) (pc k n : ℕ) : Type 0 where
  pub at : ℕ
  pub branches : List Bool
  pub way : IsKeptOver arcs k pc branches at
  pub arc : Arc
  pub loop : arc_at arcs at true ≡ Some arc
  pub takes : arc.counting ≡ Takes k
  pub much : n ≤ unit_at pay at k

-- each price of a unit that is not 0 is required by such a LOOP
abbrev pub AreWanted : List (List (Option Arc)) → List (List ℕ) → Type 0
AreWanted arcs pay = (pc k : ℕ) → 0 < unit_at pay pc k → IsWanted arcs pay pc k (unit_at pay pc k)

-- if each price was required before, it is afterwards
abbrev pub StayWanted : List (List (Option Arc)) → List (List ℕ) → List (List ℕ) → Type 0
StayWanted arcs pay next = AreWanted arcs pay → AreWanted arcs next
