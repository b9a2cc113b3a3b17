-- The longest known paths, and numbers of steps that pay for each edge.
use Rattle.std.specs.Prelude.{◌≡◌, ◌≤◌, ◌+◌, ◌⊎◌, ℕ, Bool, true, false, if◌then◌else◌, List, [], Option, Some, None, slice_get, slice_index, slice_index_or}
use Rattle.geos_image.specs.Parts.{Parts}
use Rattle.geos_image.specs.declared.point.Point.{Point}
use Rattle.control_graph.specs.Arcs.{arc_at, taken_from}
use Rattle.geos_potentials.specs.Arcs.{unit_at, price_of, paid_by, IsLink}
use Rattle.geos_code.specs.Code.{IsPcOf}
use Rattle.geos_potentials.specs.Count.{return_steps}
use Rattle.geos_potentials.specs.Numbers.{Numbers}
use Rattle.control_graph.specs.declared.arcs.Arc.{Arc}
use Rattle.control_graph.specs.declared.jumps.Jump.{Jump}
use Rattle.control_graph.specs.declared.jumps.Jump.TheVariants.{Plain, Free}
use Rattle.geos_potentials.specs.declared.lengths.Link.{Link}
use Rattle.geos_potentials.specs.declared.lengths.Way.{Way}

-- no path is known
abbrev pub no_way : Way
no_way = record { steps = 0; first = None; passed = 0 }

-- the steps of the longest known path from a pc
abbrev pub steps_at : List Way → ℕ → ℕ
steps_at ways pc = (slice_index_or ways pc no_way).steps

-- the link of an edge of a pc, if the search examines this edge
abbrev pub link_at : List (List (Option Link)) → ℕ → Bool → Option Link
link_at links pc branch = slice_index_or (slice_index_or links pc []) (if branch then 1 else 0) None

-- the numbers of steps pay for the link from a pc, if there is one, together with what a counter pays of it
abbrev pub PaysLink : (ℕ → ℕ) → ℕ → Option Link → Type 0
PaysLink want pc None = Unit {0}
PaysLink want pc (Some link) = want link.to + link.costs ≤ want pc + link.paid

-- so many steps at each pc pay for each examined edge
abbrev pub PayAll : List (List (Option Link)) → (ℕ → ℕ) → Type 0
PayAll links want = (pc : ℕ) (branch : Bool) → PaysLink want pc (link_at links pc branch)

-- no known path takes more steps than `want`
abbrev pub AtMost : List Way → (ℕ → ℕ) → Type 0
AtMost ways want = (pc : ℕ) → steps_at ways pc ≤ want pc

-- if no known path takes more steps than any numbers that pay for all links, none does afterwards
abbrev pub StayAtMost : List (List (Option Link)) → List Way → List Way → Type 0
StayAtMost links ways next = (want : ℕ → ℕ) → PayAll links want → AtMost ways want → AtMost next want

-- the numbers of steps pay for the returns of routine r, and no known path from outside of it takes more
pub record PayEnds (image : Parts) (r : ℕ) (ways : List Way) (want : ℕ → ℕ) : Type 0 where
  pub returns : (pc : ℕ) (point : Point) → IsPcOf image r pc → slice_get image.points pc ≡ Some point → return_steps point.instr ≤ want pc
  pub others : (pc : ℕ) → (IsPcOf image r pc → ⊥) → steps_at ways pc ≤ want pc

-- no path that is known next takes more steps than numbers that pay for the returns of routine r
abbrev pub AreEnds : Parts → ℕ → List Way → List Way → Type 0
AreEnds image r ways next = (want : ℕ → ℕ) → PayEnds image r ways want → AtMost next want

-- the paths that are known next are no longer than necessary: none takes more steps than any numbers that pay for the
-- returns of routine r and for each examined edge
abbrev pub AreLeast : Parts → ℕ → List (List (Option Link)) → List Way → List Way → Type 0
AreLeast image r links ways next = (want : ℕ → ℕ) → PayAll links want → PayEnds image r ways want → AtMost next want

-- Which edges are examined

-- the edge of this LOOP to its target is left out
abbrev pub is_free : Jump → Bool
is_free Free = true
is_free _ = false

-- with these prices the link of an edge of a pc has the cost of the edge. There is no link if there is no edge, or if
-- the edge is that of a LOOP to its target and this LOOP is left out.
abbrev pub IsLookedAt : List (List (Option Arc)) → List Jump → List (List ℕ) → ℕ → Bool → Option Link → Type 0
IsLookedAt arcs jumps pay pc branch None = (arc_at arcs pc branch ≡ None) ⊎ ((branch ≡ true) × (is_free (slice_index_or jumps pc Plain) ≡ true))
IsLookedAt arcs jumps pay pc branch (Some link) = (arc : Arc) × (arc_at arcs pc branch ≡ Some arc) × IsLink pay pc arc link
    × (branch ≡ true → is_free (slice_index_or jumps pc Plain) ≡ false)

-- the same of each edge of routine r
abbrev pub AreLookedAt : Parts → ℕ → List (List (Option Arc)) → List Jump → List (List ℕ) → List (List (Option Link)) → Type 0
AreLookedAt image r arcs jumps pay links = (pc : ℕ) (branch : Bool) → IsPcOf image r pc
    → IsLookedAt arcs jumps pay pc branch (link_at links pc branch)

-- What is made of these

-- with these prices the link of an edge of a pc costs at most what the edge costs, and its counter pays at least as
-- much
pub record AsksNoMore (arcs : List (List (Option Arc))) (pay : List (List ℕ)) (pc : ℕ) (branch : Bool) (link : Link) : Type 0 where
  pub arc : Arc
  pub read : arc_at arcs pc branch ≡ Some arc
  pub to : link.to ≡ arc.to
  pub costs : link.costs ≤ 1 + arc.called + price_of pay arc.to arc.counting
  pub paid : paid_by pay pc arc.counting ≤ link.paid

-- the same of each examined edge of routine r
abbrev pub AskNoMore : Parts → ℕ → List (List (Option Arc)) → List (List ℕ) → List (List (Option Link)) → Type 0
AskNoMore image r arcs pay links = (pc : ℕ) (branch : Bool) (link : Link) → IsPcOf image r pc → link_at links pc branch ≡ Some link
    → AsksNoMore arcs pay pc branch link

-- prices stay at each LOOP on their counter that is not left out
abbrev pub StayAtLoops : List (List (Option Arc)) → List Jump → List (List ℕ) → List (List ℕ) → Type 0
StayAtLoops arcs jumps pay next = (pc k : ℕ) (arc : Arc) → arc_at arcs pc true ≡ Some arc → taken_from arc.counting ≡ Some k
    → is_free (slice_index_or jumps pc Plain) ≡ false → unit_at next pc k ≡ unit_at pay pc k

-- the search examines no edge that starts outside routine r
abbrev pub NoneOutside : Parts → ℕ → List (List (Option Link)) → Type 0
NoneOutside image r links = (pc : ℕ) (branch : Bool) → (IsPcOf image r pc → ⊥) → link_at links pc branch ≡ None

-- the constants of routine r are the steps of these paths, and its coefficients are these prices
abbrev pub ArePut : Parts → ℕ → List (List ℕ) → List Way → Numbers → Type 0
ArePut image r pay ways numbers = (pc : ℕ) → IsPcOf image r pc → (slice_index numbers.steps pc ≡ steps_at ways pc)
    × (slice_index_or numbers.coefficients pc [] ≡ slice_index_or pay pc [])
