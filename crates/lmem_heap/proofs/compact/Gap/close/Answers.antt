use Rattle.std.proofs.Common.{arith}
use Rattle.geos_terms.specs.Block.{table_end}
use Rattle.geos_terms.proofs.Pieces.{tiles-le}
use Rattle.lmem_heap.proofs.Closing.{closes, closing_words-is}
use Rattle.lmem_heap.proofs.compact.Gap.close.Goals as goal

pub move_run-requires-clause-behind_table : goal.move_run-requires-clause-behind_table
move_run-requires-clause-behind_table c =
    let low = tiles-le c.args.block.now (table_end c.args.block.now) c.args.self.first c.requires.gap.pre c.args.self.first
    c.args.self.first c.requires.gap.before in (omega arith, low)

pub returns : goal.returns
returns c =
    closes c.args.block.now c.move_run.new.block c.put16-3.new.block c.args.self c.requires.header c.requires.gap (omega arith) c.move_run.ensures
    (closing_words-is c.move_run.new.block c.put16.new.block c.put16-2.new.block c.put16-3.new.block c.args.self
    c.put16.ensures c.put16-2.ensures c.put16-3.ensures)
