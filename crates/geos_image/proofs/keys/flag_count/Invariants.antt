use Rattle.std.proofs.Common.{◌≡◌, ◌+◌, ◌≤◌, drop}
use Rattle.geos_image.specs.Parts.{instrs_of}
use Rattle.geos_image.specs.Keys.{flag_count}
use Rattle.geos_image.proofs.keys.flag_count.Given as goal

abbrev pub invariant-loop-pc : goal.invariant-loop-pc
invariant-loop-pc l = (l.count ≤ l.pc)
    × (l.count + flag_count (drop l.pc l.flags) (drop l.pc (instrs_of l.points)) ≡ flag_count l.flags (instrs_of l.points))
