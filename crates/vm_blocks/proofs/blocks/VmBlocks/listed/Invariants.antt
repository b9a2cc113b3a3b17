use Rattle.std.proofs.Common.{◌≡◌, ◌≤◌}
use Rattle.arrayvec.specs.ArrayVec.{array_vec_len}
use Rattle.vm_blocks.specs.Listed.{entries_to}
use Rattle.vm_blocks.specs.Tied.{IsTied}
use Rattle.vm_blocks.proofs.blocks.VmBlocks.listed.Given as goal

abbrev pub invariant-loop-i : goal.invariant-loop-i
invariant-loop-i g l = record {
  tied : IsTied g.D.Device.medium l.self l.blocks;
  few : array_vec_len l.entries ≤ l.i;
  items : l.entries.items ≡ entries_to l.self l.blocks l.i;
}
