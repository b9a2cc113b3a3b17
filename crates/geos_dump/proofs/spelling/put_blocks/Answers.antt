use Rattle.geos_dump.proofs.Looks.{look_then}
use Rattle.geos_dump.proofs.spelling.put_blocks.Goals as goal

pub loop-i-preserved : goal.loop-i-preserved
loop-i-preserved g c = look_then g.D.Device.medium c.args.file.now c.loop-i.file c.put_block.new.file c.loop-i.invariant c.put_block.ensures
