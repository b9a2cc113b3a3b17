use Rattle.std.proofs.Common.{◌≡◌, ◌≤◌, ◌<◌, ℕ, true}
use Rattle.control_graph.specs.Orders.{StandsAt}
use Rattle.control_graph.specs.declared.arcs.Arc.{Arc}
use Rattle.loop_causes.specs.Noted.{comes_to, SetsIn}
use Rattle.loop_causes.proofs.within.note_set.Given as goal

-- control comes to the end of each edge that sets the counter at the places before x
abbrev pub invariant-loop-x : goal.invariant-loop-x
invariant-loop-x l = (x pc : ℕ) (arc : Arc) → l.piece.begin ≤ x → x < l.x → StandsAt l.order x pc
    → SetsIn l.graph.arcs l.order l.piece l.counter pc arc → comes_to l.trails arc.to ≡ true
