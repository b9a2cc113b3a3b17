use Rattle.std.proofs.Common.{◌≢◌, ℕ, ◌<◌}
use Rattle.geos_terms.specs.Block.{entry}
use Rattle.lmem_heap.proofs.table.lowest_entry.Given as goal

abbrev pub invariant-loop-i : goal.invariant-loop-i
invariant-loop-i l = (k : ℕ) → k < l.i → entry l.block k ≢ 0
