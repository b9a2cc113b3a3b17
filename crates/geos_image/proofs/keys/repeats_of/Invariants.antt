use Rattle.std.proofs.Common.{◌≡◌, ◌≤◌, length}
use Rattle.geos_image.specs.Repeats.{RepeatsBy, flag_before, flags_before}
use Rattle.geos_image.proofs.keys.repeats_of.Given as goal

abbrev pub invariant-loop-pc : goal.invariant-loop-pc
invariant-loop-pc l = (l.next ≤ l.pc) × (l.next ≡ flags_before l.flags l.pc) × (l.before ≡ flag_before l.flags l.pc)
    × (length l.repeats ≡ 4096) × RepeatsBy l.flags l.alike l.pc l.repeats
