use Rattle.std.proofs.Common.{◌<◌, ℕ}
use Rattle.vm_blocks.specs.Blocks.{HasUid}
use Rattle.vm_blocks.proofs.blocks.VmBlocks.find.Given as goal

abbrev pub invariant-loop-h : goal.invariant-loop-h
invariant-loop-h g l = (k : ℕ) → l.start < k → k < l.h → HasUid l.self l.uid k → ⊥
