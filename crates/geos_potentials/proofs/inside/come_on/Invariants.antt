use Rattle.std.proofs.Common.{◌+◌, ◌*◌}
use Rattle.geos_potentials.specs.Demands.{left_in}
use Rattle.geos_potentials.proofs.inside.come_on.Given as goal

abbrev pub decreases-loop-pc : goal.decreases-loop-pc
decreases-loop-pc l = 2 * left_in l.seen + l.waits.count
