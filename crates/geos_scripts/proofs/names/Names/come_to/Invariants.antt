use Rattle.std.proofs.Common.{length}
use Rattle.geos_scripts.proofs.names.Names.come_to.Given as goal

abbrev pub decreases-loop-self : goal.decreases-loop-self
decreases-loop-self l = length l.self.rest.now
