use Rattle.std.proofs.Common.{◌≤◌, ◌+◌, ◌∙◌, length, slice_get, sym, arith}
use Rattle.geos_image.specs.declared.routine.Routine.{Routine}
use Rattle.geos_verify.proofs.Places.{if_some}
use Rattle.geos_asm.proofs.Calling.{calls-on-at, none-more, none-in}
use Rattle.geos_asm.proofs.calls.calling_on.Goals as goal

pub loop-pc-preserved : goal.loop-pc-preserved
loop-pc-preserved c = none-more c.args.image.now c.args.r c.start-start.result c.loop-pc.pc c.instr.result.now c.loop-pc.invariant
    c.instr.ensures.there (sym c.calls_on.ensures ∙ c.if-calls_on.false)

pub returns-then-calls_on-clause-some : goal.returns-then-calls_on-clause-some
returns-then-calls_on-clause-some c =
    let image = c.args.image.now in
    let start = c.start-start.ensures.start in
    let room = if_some (λ (routine : Routine). c.start-start.result + routine.count ≤ length image.points) (slice_get image.routines c.args.r)
    c.routine.result.now c.routine.ensures c.start-start.ensures.room in
    calls-on-at image c.args.r c.loop-pc.pc c.routine.result.now c.instr.result.now c.routine.ensures
    (omega (arith, start, c.loop-pc.auto.pc)) (omega (arith, start, c.loop-pc-test.true)) (omega (arith, room, c.loop-pc-test.true))
    c.instr.ensures.there (sym c.calls_on.ensures ∙ c.if-calls_on.true)

pub returns-clause-none : goal.returns-clause-none
returns-clause-none c =
    let image = c.args.image.now in
    let start = c.start-start.ensures.start in
    none-in image c.args.r c.loop-pc.pc c.routine.result.now c.routine.ensures (omega (arith, start, c.loop-pc-test.false))
    (λ pc point from. c.loop-pc.invariant pc point (omega (arith, start, from)))
