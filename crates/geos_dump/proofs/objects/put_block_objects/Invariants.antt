use Rattle.std.proofs.Common.{◌-◌}
use Rattle.geos_dump.proofs.objects.put_block_objects.Given as goal

abbrev pub decreases-loop-c : goal.decreases-loop-c
decreases-loop-c l = 65536 - l.last
