use Rattle.block_handles.proofs.Readies.{kept-bytes}
use Rattle.block_handles.proofs.Laws.{handle_of_there}
use Rattle.block_handles.proofs.Blocks.bytes_mut.Goals as goal

pub invariant_of-self-lent : goal.invariant_of-self-lent
invariant_of-self-lent c w = kept-bytes c.self.inside.arena c.self.inside.gap c.self.inside.used.words.items c.slot_in_use.result w c.self.invariant

pub slot_in_use-requires : goal.slot_in_use-requires
slot_in_use-requires c = handle_of_there _ _ c.args.name c.self.view_is c.self.invariant.ready.laid c.requires
