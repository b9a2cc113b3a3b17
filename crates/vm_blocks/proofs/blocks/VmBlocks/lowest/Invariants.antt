use Rattle.std.proofs.Common.{◌≡◌, ◌≤◌, ◌<◌, ℕ, true}
use Rattle.std.specs.Prelude.{is_some}
use Rattle.vm_blocks.specs.View.{held_at}
use Rattle.vm_blocks.proofs.blocks.VmBlocks.lowest.Given as goal

abbrev pub invariant-loop-h : goal.invariant-loop-h
invariant-loop-h g l = (k : ℕ) → 1 ≤ k → k < l.h → is_some (held_at l.self k) ≡ true
