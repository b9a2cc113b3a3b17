use Rattle.std.specs.Prelude.{◌*◌}
use Rattle.geos_flow.specs.Graphs.{AreInto}
use Rattle.geos_flow.proofs.graph.Graph.of.Given as goal

abbrev pub invariant-loop-from : goal.invariant-loop-from
invariant-loop-from l = AreInto l.image (2 * l.from) l.first l.behind
