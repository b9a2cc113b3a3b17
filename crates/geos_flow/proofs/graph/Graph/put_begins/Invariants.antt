use Rattle.std.specs.Prelude.{◌≡◌, ◌≤◌, ◌⊎◌, ℕ, Some, true}
use Rattle.geos_flow.specs.declared.edge.Edge.{Edge}
use Rattle.geos_flow.specs.Edges.{end_in, number_of}
use Rattle.geos_flow.specs.Graphs.{above, LeadsTo}
use Rattle.geos_flow.specs.Marks.{is_marked}
use Rattle.geos_flow.proofs.graph.Graph.put_begins.Given as goal

abbrev pub invariant-loop-at : goal.invariant-loop-at
invariant-loop-at l = record {
  leads : (edge : Edge) → l.at ≡ Some edge → end_in l.self.image.now edge ≡ Some l.to;
  begins : (edge : Edge) → above l.at ≤ number_of edge → end_in l.self.image.now edge ≡ Some l.to → is_marked l.waits edge.from ≡ true;
  keeps : (pc : ℕ) → is_marked l.initial.waits pc ≡ true → is_marked l.waits pc ≡ true;
  was : (pc : ℕ) → is_marked l.waits pc ≡ true → (is_marked l.initial.waits pc ≡ true) ⊎ LeadsTo l.self.image.now pc l.to;
}

abbrev pub decreases-loop-at : goal.decreases-loop-at
decreases-loop-at l = above l.at
