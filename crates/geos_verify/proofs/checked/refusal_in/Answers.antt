use Rattle.std.proofs.Common.{◌<◌, length, arith}
use Rattle.geos_verify.proofs.Places.{refuses_none-next}
use Rattle.geos_verify.proofs.Known.{row-given}
use Rattle.geos_verify.proofs.Passed.{names-none-next}
use Rattle.geos_verify.proofs.checked.refusal_in.Goals as goal

pub refusal-requires-clause-names : goal.refusal-requires-clause-names
refusal-requires-clause-names c = c.loop-pc.invariant.2

pub loop-pc-preserved : goal.loop-pc-preserved
loop-pc-preserved c =
    let body = c.args.body.now in
    let pc = c.loop-pc.pc in
    let passes = c.in_default.ensures in
    let lt : pc < length body.image.now.points = omega (arith, c.loop-pc-test.true, body.end) in (
      refuses_none-next body.image.now body.r body.start pc body.routine.now c.loop-pc.invariant.0 passes,
      c.go_on-names_none.ensures.row,
      λ known. names-none-next body.image.now body.r body.start pc body.routine.now c.loop-pc.row c.go_on-names_none.new.row lt passes
          c.loop-pc.invariant.1 (c.go_on-names_none.ensures.names known),
    )

pub loop-pc-init : goal.loop-pc-init
loop-pc-init c =
    let body = c.args.body.now in (
      (λ pc point above below read. absurd (omega (arith, above, below))),
      row-given body.image.now body.start
          c.row.result.now c.row.ensures body.room,
      λ known. absurd cc,
    )
