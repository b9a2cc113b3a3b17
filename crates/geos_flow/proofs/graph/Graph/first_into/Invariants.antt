use Rattle.std.specs.Prelude.{◌≡◌, ◌≤◌, Some}
use Rattle.geos_flow.specs.declared.edge.Edge.{Edge}
use Rattle.geos_flow.specs.Edges.{end_in, number_of}
use Rattle.geos_flow.specs.Graphs.{above, IsInto, Stands}
use Rattle.geos_flow.proofs.graph.Graph.first_into.Given as goal

abbrev pub invariant-loop-at : goal.invariant-loop-at
invariant-loop-at g l = record {
  leads : (edge : Edge) → l.at ≡ Some edge → end_in l.self.image.now edge ≡ Some l.to;
  into : (edge : Edge) → l.found ≡ Some edge → IsInto l.self.image.now (g.C.Counting.counted l.counting) l.to edge;
  first : (edge : Edge) → above l.at ≤ number_of edge → IsInto l.self.image.now (g.C.Counting.counted l.counting) l.to edge → Stands l.found edge;
}

abbrev pub decreases-loop-at : goal.decreases-loop-at
decreases-loop-at g l = above l.at
