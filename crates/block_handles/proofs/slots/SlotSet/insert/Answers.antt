use Rattle.std.proofs.Common.{◌/◌, ◌<◌, length, arith}
use Rattle.std.proofs.lemmas.List.{get_or_read}
use Rattle.block_handles.proofs.SlotBits.{set_bit}
use Rattle.block_handles.proofs.slots.SlotSet.insert.Goals as goal

pub returns : goal.returns
returns c =
    let small : c.args.slot / 64 < length c.args.self.now.words.items = omega arith in
    set_bit c.args.self.now.words.items c.args.slot c.index_mut.result.now small
    (get_or_read c.args.self.now.words.items (c.args.slot / 64) c.index_mut.result.now small c.index_mut.ensures.value 0)
