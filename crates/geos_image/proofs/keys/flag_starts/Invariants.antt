use Rattle.std.proofs.Common.{◌≡◌, ◌≤◌, ◌*◌, drop}
use Rattle.geos_image.specs.Keys.{starts_from, flagged}
use Rattle.geos_image.proofs.keys.flag_starts.Given as goal

abbrev pub invariant-loop-routine : goal.invariant-loop-routine
invariant-loop-routine l = (l.start ≤ 65535 * l.routine-index)
    × (flagged (starts_from l.start (drop l.routine-index l.routines)) l.flags ≡ flagged (starts_from 0 l.routines) l.initial.flags)
