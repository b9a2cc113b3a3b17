use Rattle.geos_flow.proofs.Taking.{back-begun, back-next}
use Rattle.geos_flow.proofs.search.go_back.Goals as goal

pub loop-at-init : goal.loop-at-init
loop-at-init g c =
    back-begun c.args.graph.now.image.now (g.C.Counting.counted c.args.counting.now) c.args.to c.first-at.result c.args.waiting.now c.requires.kept
    c.first-at.ensures

pub loop-at-preserved : goal.loop-at-preserved
loop-at-preserved g c =
    let edge = c.in-Some.edge in
    let so_far = c.loop-at.invariant in
    back-next c.args.graph.now.image.now (g.C.Counting.counted c.args.counting.now) c.args.to edge c.loop-at.at c.next-at.result c.args.waiting.now
    c.loop-at.waiting c.step.new.waiting c.in-Some.is so_far c.step.ensures.kept (c.next-at.ensures c.args.to (so_far.leads edge c.in-Some.is))
    c.step.ensures.takes
