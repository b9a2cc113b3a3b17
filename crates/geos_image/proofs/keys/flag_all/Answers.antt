use Rattle.geos_image.proofs.KeyLaws.{flags-more}
use Rattle.geos_image.proofs.keys.flag_all.Goals as goal

pub loop-pc-preserved : goal.loop-pc-preserved
loop-pc-preserved c = flags-more c.args.points.now c.loop-pc.pc _ c.loop-pc.flags c.flag_at.new.flags _ c.loop-pc-test.true
    c.loop-pc.invariant c.flag_at.ensures
