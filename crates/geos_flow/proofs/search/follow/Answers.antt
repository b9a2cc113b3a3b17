use Rattle.std.proofs.Common.{◌≡◌, length, arith, refl, sym, subst}
use Rattle.geos_flow.specs.declared.waiting.Waiting.{Waiting}
use Rattle.geos_flow.specs.Flow.{step_by, MarksWhatIsLed}
use Rattle.geos_flow.specs.Waiting.{Waits}
use Rattle.geos_flow.proofs.Taking.{searched-begun, searched-next, searched-ended, few-marked}
use Rattle.geos_flow.proofs.search.follow.Goals as goal

pub loop-pc-init : goal.loop-pc-init
loop-pc-init g c =
    let full : length c.args.marks.now ≡ 4096 = omega arith in
    let begun = c.begun-waiting.ensures in
    searched-begun (step_by c.args.graph.now.image.now c.args.heading (g.C.Counting.counted c.args.counting.now)) c.args.marks.now full
    c.begun-waiting.result begun.kept (λ k. (begun.same k).0) (λ k. (begun.same k).1) begun.waits

pub loop-pc-smaller : goal.loop-pc-smaller
loop-pc-smaller g c =
    let few = few-marked c.take.new.self c.in-Some.ensures.kept in
    let takes = c.in-Some.ensures.takes in
    let extends = c.go.ensures.goes.extends in
    omega (arith, few, takes.next, extends.next, c.in-Some.ensures.kept.next)

pub loop-pc-preserved : goal.loop-pc-preserved
loop-pc-preserved g c =
    let full : length c.args.marks.now ≡ 4096 = omega arith in
    searched-next (step_by c.args.graph.now.image.now c.args.heading (g.C.Counting.counted c.args.counting.now)) c.args.marks.now full
    c.loop-pc.waiting c.take.new.self c.go.new.waiting c.in-Some.pc c.loop-pc.invariant c.in-Some.ensures.takes c.go.ensures.goes c.go.ensures.kept
    c.loop-pc.invariant.kept.long

pub returns : goal.returns
returns g c =
    let full : length c.args.marks.now ≡ 4096 = omega arith in
    let steps = step_by c.args.graph.now.image.now c.args.heading (g.C.Counting.counted c.args.counting.now) in
    let stays = c.in_default.ensures.stays refl in
    let none = c.in_default.ensures.none refl in
    subst (λ (w : Waiting). MarksWhatIsLed steps c.args.marks.now w.marks) (sym stays)
    (searched-ended steps c.args.marks.now full c.loop-pc.waiting c.loop-pc.invariant (λ k waits. none k (subst (λ w. Waits w k) (sym stays) waits)))
