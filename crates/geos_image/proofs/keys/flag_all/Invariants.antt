use Rattle.std.proofs.Common.{◌≡◌, drop}
use Rattle.geos_image.specs.Parts.{instrs_of}
use Rattle.geos_image.specs.Keys.{keys_from, flagged}
use Rattle.geos_image.proofs.keys.flag_all.Given as goal

abbrev pub invariant-loop-pc : goal.invariant-loop-pc
invariant-loop-pc l = flagged (keys_from l.pc (drop l.pc (instrs_of l.points))) l.flags ≡ flagged (keys_from 0 (instrs_of l.points)) l.initial.flags
