use Rattle.std.proofs.Common.{◌≡◌, ◌≢◌, ◌≤◌, ◌<◌, ℕ, false}
use Rattle.vm_blocks.specs.Room.{is_idle}
use Rattle.vm_blocks.proofs.blocks.VmBlocks.first_idle.Given as goal

abbrev pub invariant-loop-h : goal.invariant-loop-h
invariant-loop-h g l = (k : ℕ) → 1 ≤ k → k < l.h → k ≢ l.but → is_idle l.self l.blocks k ≡ false
