use Rattle.std.proofs.Common.{arith}
use Rattle.loop_causes.proofs.turns.go_all.Goals as goal

pub loop-pc-preserved : goal.loop-pc-preserved
loop-pc-preserved c = λ begin all.
    let low = c.args.low in
    let before = c.go.ensures low (omega (arith, c.loop-pc.auto.pc)) (omega (arith, c.loop-pc-test.true)) begin (c.loop-pc.invariant begin all) in
    c.go-in-loop-pc.ensures low (omega (arith, c.loop-pc.auto.pc)) (omega (arith, c.loop-pc-test.true)) begin before
