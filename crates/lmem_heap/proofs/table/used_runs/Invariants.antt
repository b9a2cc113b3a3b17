use Rattle.std.proofs.Common.{◌≢◌, ℕ, ◌<◌, ◌*◌}
use Rattle.geos_terms.specs.Block.{entry}
use Rattle.lmem_heap.proofs.table.used_runs.Given as goal

abbrev pub invariant-loop-run : goal.invariant-loop-run
invariant-loop-run l = (k : ℕ) → k < 16 * l.run → entry l.block k ≢ 0
