use Rattle.geos_potentials.proofs.Spreading.{come-refl}
use Rattle.geos_potentials.proofs.spread.go_on.Goals as goal

pub loop-pc-init : goal.loop-pc-init
loop-pc-init c = come-refl c.args.graph.now.arcs c.args.low c.args.spread.now

pub loop-pc-preserved-then-low-pc : goal.loop-pc-preserved-then-low-pc
loop-pc-preserved-then-low-pc c =
    let first = c.args.spread.now in
    let above = c.if-low-pc.true in
    c.go_along-then-low-pc.ensures.come c.args.low first above (c.go_along.ensures.come c.args.low first above c.loop-pc.invariant)
