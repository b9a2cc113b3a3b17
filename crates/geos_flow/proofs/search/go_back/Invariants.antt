use Rattle.geos_flow.specs.Graphs.{above}
use Rattle.geos_flow.proofs.Taking.{HasGoneBack}
use Rattle.geos_flow.proofs.search.go_back.Given as goal

abbrev pub invariant-loop-at : goal.invariant-loop-at
invariant-loop-at g l = HasGoneBack l.graph.image.now (g.C.Counting.counted l.counting) l.to l.at l.initial.waiting l.waiting

abbrev pub decreases-loop-at : goal.decreases-loop-at
decreases-loop-at g l = above l.at
