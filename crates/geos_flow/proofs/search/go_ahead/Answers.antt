use Rattle.geos_flow.proofs.Taking.{goes-ahead}
use Rattle.geos_flow.proofs.search.go_ahead.Goals as goal

pub returns-clause-goes : goal.returns-clause-goes
returns-clause-goes g c = goes-ahead c.args.graph.now.image.now (g.C.Counting.counted c.args.counting.now) c.args.from c.args.waiting.now
    c.step_ahead.new.waiting c.step_ahead-2.new.waiting c.step_ahead.ensures.takes c.step_ahead-2.ensures.takes
