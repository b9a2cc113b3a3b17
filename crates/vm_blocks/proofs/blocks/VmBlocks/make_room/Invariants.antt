use Rattle.block_handles.specs.Names.{slot_of}
use Rattle.block_handles.specs.Store.{IsThere}
use Rattle.vm_blocks.specs.Tied.{IsTied}
use Rattle.vm_blocks.specs.Room.{DiscardsForRoom, Thins, own_handle, there_count}
use Rattle.vm_blocks.proofs.blocks.VmBlocks.make_room.Given as goal

abbrev pub invariant-loop-blocks : goal.invariant-loop-blocks
invariant-loop-blocks g l = record {
  tied : IsTied g.D.Device.medium l.self l.blocks;
  thins : Thins l.self l.fn.blocks l.blocks (own_handle l.name);
  wanted : DiscardsForRoom l.self l.fn.blocks l.blocks (own_handle l.name) (slot_of l.name) l.size;
  absent : IsThere l.blocks (slot_of l.name) → ⊥;
}

abbrev pub decreases-loop-blocks : goal.decreases-loop-blocks
decreases-loop-blocks g l = there_count l.blocks
