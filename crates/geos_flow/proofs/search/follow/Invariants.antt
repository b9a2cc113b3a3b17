use Rattle.std.specs.Prelude.{◌-◌}
use Rattle.geos_flow.specs.Flow.{step_by}
use Rattle.geos_flow.proofs.Taking.{HasSearched}
use Rattle.geos_flow.proofs.search.follow.Given as goal

abbrev pub invariant-loop-pc : goal.invariant-loop-pc
invariant-loop-pc g l = HasSearched (step_by l.graph.image.now l.heading (g.C.Counting.counted l.counting)) l.marks l.waiting

abbrev pub decreases-loop-pc : goal.decreases-loop-pc
decreases-loop-pc g l = 4096 - l.waiting.next
