use Rattle.block_handles.proofs.Laws.{handle_of_there}
use Rattle.block_handles.proofs.Blocks.place.Goals as goal

pub slot_in_use-requires : goal.slot_in_use-requires
slot_in_use-requires c = handle_of_there _ _ c.args.name c.self.view_is c.self.invariant.ready.laid c.requires
