use Rattle.std.proofs.Common.{◌∙◌}
use Rattle.geos_dump.proofs.Looks.{causes_error, look_then}
use Rattle.geos_dump.proofs.telling.put_blocks.Goals as goal

pub returns-in_err-put_block-clause-looks : goal.returns-in_err-put_block-clause-looks
returns-in_err-put_block-clause-looks g c = look_then g.D.Device.medium _ _ _ c.loop-i.invariant.looks c.in_err-put_block.ensures.looks

pub returns-in_err-put_block-clause-cause : goal.returns-in_err-put_block-clause-cause
returns-in_err-put_block-clause-cause g c =
    let i = c.loop-i.invariant in
    causes_error _ _ _ _ _ _ _ i.count i.looks.reads.stays c.from_residual.ensures.1 c.in_err-put_block.ensures.cause

pub loop-i-preserved : goal.loop-i-preserved
loop-i-preserved g c =
    let i = c.loop-i.invariant in
    record {
      looks = look_then g.D.Device.medium c.args.file.now c.loop-i.file c.put_block.new.file i.looks c.in_ok-put_block.ensures.looks;
      count = c.in_ok-put_block.ensures.cause ∙ i.count;
    }
