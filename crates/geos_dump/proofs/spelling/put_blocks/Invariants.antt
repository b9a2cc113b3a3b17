use Rattle.geos_dump.specs.Sides.{IsOnlyRead}
use Rattle.geos_dump.proofs.spelling.put_blocks.Given as goal

abbrev pub invariant-loop-i : goal.invariant-loop-i
invariant-loop-i g l = IsOnlyRead g.D.Device.medium l.fn.file l.file
