use Rattle.std.specs.Prelude.{◌≡◌, length}
use Rattle.geos_explain.specs.Led.{MarksStarts}
use Rattle.geos_explain.proofs.led.starts_marked.Given as goal

abbrev pub invariant-loop-r : goal.invariant-loop-r
invariant-loop-r l = record {
  long : length l.marks ≡ 4096;
  starts : MarksStarts l.image l.r l.marks;
}
