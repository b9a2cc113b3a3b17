use Rattle.lmem_heap.proofs.Movers.{run-moved, run-still, run-table}
use Rattle.lmem_heap.proofs.runs.move_run.Goals as goal

pub move_entries-requires-clause-table : goal.move_entries-requires-clause-table
move_entries-requires-clause-table c = run-table c.args.block.now c.move_bytes.new.block c.args.from c.args.end
    c.args.to c.requires.behind_table.0 c.requires.behind_table.1 c.requires.within.0 c.requires.within.1 c.move_bytes.ensures

pub returns : goal.returns
returns c = run-moved c.args.block.now c.move_bytes.new.block c.move_entries.new.block c.args.from c.args.end c.args.to
    c.requires.behind_table.0 c.requires.behind_table.1 c.requires.within.0 c.requires.within.1 c.requires.within.2
    c.move_bytes.ensures c.move_entries.ensures

pub returns-then-from-to : goal.returns-then-from-to
returns-then-from-to c = run-still c.args.block.now c.args.from c.args.end c.args.to c.if-from-to.true
