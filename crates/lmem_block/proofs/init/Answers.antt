use Rattle.std.proofs.Common.{length}
use Rattle.lmem_block.proofs.Fresh.{fresh-heap, fresh-chunks}
use Rattle.lmem_block.proofs.init.Goals as goal

pub returns-clause-heap : goal.returns-clause-heap
returns-clause-heap c = fresh-heap c.put_words.new.block c.args.handle (length c.args.block.now) c.put_words.auto.block
    c.requires.0 c.requires.1 c.requires.2 c.put_words.ensures.words

pub returns-clause-chunks : goal.returns-clause-chunks
returns-clause-chunks c = fresh-chunks c.put_words.new.block c.args.handle (length c.args.block.now) c.put_words.ensures.words

pub returns-clause-handle : goal.returns-clause-handle
returns-clause-handle c = c.put_words.ensures.words.0
