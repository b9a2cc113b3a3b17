use Rattle.std.proofs.Common.{◌≡◌, ◌≢◌, ℕ, ◌<◌, ◌≤◌, false}
use Rattle.geos_terms.specs.Block.{entry}
use Rattle.lmem_heap.proofs.table.is_used_run.Given as goal

abbrev pub invariant-loop-i : goal.invariant-loop-i
invariant-loop-i l = l.free ≡ false → (k : ℕ) → l.from ≤ k → k < l.i → entry l.block k ≢ 0
