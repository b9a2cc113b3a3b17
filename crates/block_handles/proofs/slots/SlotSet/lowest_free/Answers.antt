use Rattle.std.proofs.Common.{◌<◌, length, arith}
use Rattle.std.proofs.lemmas.List.{get_or_read}
use Rattle.block_handles.proofs.SlotBits.{full_word, free_word}
use Rattle.block_handles.proofs.slots.SlotSet.lowest_free.Goals as goal

pub returns-then-word-clause-found : goal.returns-then-word-clause-found
returns-then-word-clause-found c =
    let small : c.loop-i.i < length c.args.self.now.words.items = omega arith in
    free_word c.args.self.now.words.items c.args.first c.loop-i.i c.index-word.result.now
    (get_or_read c.args.self.now.words.items c.loop-i.i c.index-word.result.now small c.index-word.ensures 0)
    c.loop-i.invariant (omega arith) c.if-word.true c.loop-i.auto.i c.loop-i-test.true c.trailing_ones.result c.trailing_ones.ensures

pub loop-i-preserved : goal.loop-i-preserved
loop-i-preserved c =
    let small : c.loop-i.i < length c.args.self.now.words.items = omega arith in
    full_word c.args.self.now.words.items c.args.first c.loop-i.i c.index-word.result.now
    (get_or_read c.args.self.now.words.items c.loop-i.i c.index-word.result.now small c.index-word.ensures 0) c.loop-i.invariant c.if-word.false
