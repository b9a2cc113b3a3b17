use Rattle.std.proofs.Common.{◌<◌, ℕ, Bool}
use Rattle.control_graph.specs.Arcs.{arc_at}
use Rattle.geos_code.specs.Code.{IsPcOf}
use Rattle.geos_potentials.specs.Arcs.{IsArcIf}
use Rattle.geos_potentials.proofs.counting.note_edges.Given as goal

-- the edges of the instructions before pc are noted
abbrev pub invariant-loop-pc : goal.invariant-loop-pc
invariant-loop-pc l = (pc : ℕ) (branch : Bool) → IsPcOf l.body.image.now l.body.r pc → pc < l.pc
    → IsArcIf l.body.image.now l.body.r l.known l.touched pc branch (arc_at l.graph.arcs pc branch)
