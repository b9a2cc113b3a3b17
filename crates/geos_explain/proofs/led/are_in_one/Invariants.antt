use Rattle.std.specs.Prelude.{◌≡◌}
use Rattle.geos_explain.specs.Led.{are_in_one}
use Rattle.geos_explain.proofs.led.are_in_one.Given as goal

abbrev pub invariant-loop-r : goal.invariant-loop-r
invariant-loop-r l = l.both ≡ are_in_one l.image l.pc l.other l.r
