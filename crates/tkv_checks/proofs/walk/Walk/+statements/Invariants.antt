use Rattle.std.proofs.Common.{◌-◌, length}
use Rattle.tkv_checks.specs.Places.{Grows}
use Rattle.tkv_checks.specs.Walks.{IsRead}
use Rattle.tkv_checks.proofs.walk.Walk.+statements.Given as goal

abbrev pub decreases-statements : goal.decreases-statements
decreases-statements l = length l.around.now - l.depth

abbrev pub invariant-loop-at : goal.invariant-loop-at
invariant-loop-at l = Grows l.fn.depth l.fn.around l.around
    × IsRead l.fn.self.image.now l.fn.self.items.now l.around l.fn.depth l.fn.from l.fn.place l.at l.here

abbrev pub decreases-loop-at : goal.decreases-loop-at
decreases-loop-at l = length l.self.items.now - l.at
