use Rattle.std.proofs.Common.{◌+◌}
use Rattle.block_handles.specs.Names.{slot_of}
use Rattle.block_handles.specs.Store.{size_of}
use Rattle.vm_blocks.specs.Tied.{IsTied}
use Rattle.vm_blocks.specs.Room.{DiscardsForRoom, Thins, own_handle, there_count}
use Rattle.vm_blocks.proofs.blocks.VmBlocks.discard_for.Given as goal

abbrev pub invariant-loop-blocks : goal.invariant-loop-blocks
invariant-loop-blocks g l = record {
  tied : IsTied g.D.Device.medium l.self l.blocks;
  thins : Thins l.self l.fn.blocks l.blocks (own_handle l.fn.name);
  wanted : DiscardsForRoom l.self l.fn.blocks l.blocks (own_handle l.fn.name) (slot_of l.fn.name) (size_of l.fn.blocks (slot_of l.fn.name) + l.more);
}

abbrev pub decreases-loop-blocks : goal.decreases-loop-blocks
decreases-loop-blocks g l = there_count l.blocks
