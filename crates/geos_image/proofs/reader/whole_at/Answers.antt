use Rattle.std.proofs.Common.{rules, arith, false}
use Rattle.geos_image.proofs.PointLaws.{points_given}
use Rattle.geos_image.proofs.KeyLaws.{code_legal}
use Rattle.geos_image.proofs.RepeatLaws.{first-noted}
use Rattle.geos_image.proofs.reader.whole_at.Goals as goal

pub invariant_of-result : goal.invariant_of-result
invariant_of-result c = (
  code_legal false c.args.routines.items c.args.code.now c.in_ok-points.points.items c.requires.legal
      c.in_ok-points.ensures.legal c.in_ok-points.ensures.len
      (points_given c.args.bytes.now 4096 c.args.code.now c.args.at c.in_ok-points.points.items c.requires.short c.in_ok-points.ensures.exact),
  rw c.in_ok-repeats.ensures (first-noted _ c.in_ok-points.points.items _ (search (rules, arith)) c.in_ok-points.ensures.len c.in_ok-points.ensures.repeats),
)
