use Rattle.std.specs.Prelude.{◌≡◌, ◌<◌, ℕ, None, length, slice_index_or}
use Rattle.geos_explain.specs.Repeated.{IsToldOnce}
use Rattle.geos_explain.proofs.repeated.told_once.Given as goal

abbrev pub invariant-loop-pc : goal.invariant-loop-pc
invariant-loop-pc l = record {
  long : length l.told.items ≡ l.pc;
  each : (pc : ℕ) → pc < l.pc → IsToldOnce l.image l.refused pc (slice_index_or l.told.items pc None);
}
