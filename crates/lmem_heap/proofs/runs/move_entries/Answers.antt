use Rattle.std.proofs.Common.{ℕ, ◌+◌, List, ap, sym, ◌∙◌, subst, arith}
use Rattle.lmem_heap.specs.Moves.{entry_moved, MapsEntries}
use Rattle.lmem_heap.proofs.Movers.{entries-more}
use Rattle.lmem_heap.proofs.runs.move_entries.Goals as goal

pub loop-i-preserved : goal.loop-i-preserved
loop-i-preserved c =
    let a = c.args in
    subst (λ (b : List ℕ). MapsEntries a.block.now b (entry_moved a.from a.end a.to) 0 (c.loop-i.i + 1)) (sym c.put_entry.ensures)
    (entries-more a.block.now c.loop-i.block (entry_moved a.from a.end a.to) 0 c.loop-i.i c.moved_entry-moved.result
    c.loop-i.invariant (omega arith) (omega (arith, c.entries-i-end.ensures.value)) c.requires.table
    (c.moved_entry-moved.ensures ∙ ap (entry_moved a.from a.end a.to) c.entry.ensures) c.moved_entry-moved.type_inv)
