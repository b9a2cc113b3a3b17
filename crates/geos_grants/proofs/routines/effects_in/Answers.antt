use Rattle.std.proofs.Common.{◌<◌, ◌≤◌, ◌+◌, length, slice_get, sym, ap₂, ◌∙◌, arith}
use Rattle.std.specs.Prelude.{◌||◌}
use Rattle.geos_verify.proofs.Known.{row-given, gives-within}
use Rattle.geos_verify.proofs.Places.{if_some}
use Rattle.geos_grants.specs.Routines.{acts, noted}
use Rattle.geos_grants.proofs.Passes.{none-has, passed-none, passed-one, passed-all}
use Rattle.geos_grants.proofs.routines.effects_in.Goals as goal

pub loop-pc-init : goal.loop-pc-init
loop-pc-init c =
    let image = c.args.image.now in
    let start = c.start-start.result in (
      row-given image start c.row.result.now c.row.ensures (gives-within image start c.start-start.ensures.given),
      λ effect. rw c.none-found.ensures
          (none-has effect ∙ sym (passed-none image c.args.r start c.start-start.ensures.start (acts effect (noted c.args.table.now effect)))),
    )

pub loop-pc-preserved : goal.loop-pc-preserved
loop-pc-preserved c =
    let image = c.args.image.now in
    let start = c.start-start.result in
    let pc = c.loop-pc.pc in
    let end = if_some (λ routine. start + routine.count ≤ length image.points) (slice_get image.routines c.args.r)
    c.routine.result.now c.routine.ensures c.start-start.ensures.room in
    let lt : pc < length image.points = omega (arith, c.loop-pc-test.true, end) in (
      c.row_next-row.ensures,
      λ effect. c.or-found.ensures.each effect
          ∙ ap₂ (λ a b. a || b) (c.loop-pc.invariant.1 effect) (c.effects_with_callee.ensures effect)
          ∙ sym (passed-one image c.args.r start c.start-start.ensures.start c.routine.result.now c.routine.ensures effect
          (noted c.args.table.now effect) pc c.instr.result.now c.loop-pc.row c.loop-pc.auto.pc c.loop-pc-test.true
          c.instr.ensures.there c.loop-pc.invariant.0 lt),
    )

pub returns : goal.returns
returns c = λ effect. c.loop-pc.invariant.1 effect
    ∙ passed-all c.args.image.now c.args.r c.start-start.result c.start-start.ensures.start c.routine.result.now c.routine.ensures
    (acts effect (noted c.args.table.now effect)) c.loop-pc.pc (omega (arith, c.loop-pc-test.false))
