use Rattle.std.proofs.Common.{◌≡◌, ℕ, ◌<◌, ◌≤◌, ◌⊎◌, false}
use Rattle.geos_terms.specs.Block.{entry}
use Rattle.lmem_heap.proofs.slides.is_apart.Given as goal

abbrev pub invariant-loop-i : goal.invariant-loop-i
invariant-loop-i l = l.inside ≡ false → (k : ℕ) → l.from ≤ k → k < l.i → (entry l.block k ≤ l.low) ⊎ (l.high ≤ entry l.block k)
