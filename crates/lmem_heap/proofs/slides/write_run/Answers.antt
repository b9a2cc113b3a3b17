use Rattle.std.proofs.Common.{ℕ, ◌+◌, List, ap, sym, ◌∙◌, subst, arith}
use Rattle.lmem_heap.specs.Moves.{MapsEntries}
use Rattle.lmem_heap.specs.Slides.{entry_slid}
use Rattle.lmem_heap.proofs.Movers.{entries-more}
use Rattle.lmem_heap.proofs.slides.write_run.Goals as goal

pub loop-i-preserved : goal.loop-i-preserved
loop-i-preserved c =
    let f : ℕ → ℕ = entry_slid c.args.slides.now.runs.now in
    subst (λ (b : List ℕ). MapsEntries c.args.block.now b f c.args.from (c.loop-i.i + 1)) (sym c.put_entry.ensures)
    (entries-more c.args.block.now c.loop-i.block f c.args.from c.loop-i.i c.slid_entry-slid.result c.loop-i.invariant
    c.loop-i.auto.i (omega arith) c.requires.table
    (c.slid_entry-slid.ensures ∙ ap f c.entry.ensures) c.slid_entry-slid.type_inv)
