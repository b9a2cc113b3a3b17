use Rattle.std.proofs.Common.{◌+◌, ◌-◌, subst, sym, ℕ}
use Rattle.lmem_heap.specs.Extents.{IsExtent}
use Rattle.lmem_heap.proofs.Extending.{read}
use Rattle.lmem_heap.proofs.extents.Extent.of.Goals as goal

pub overflow_sub-len : goal.overflow_sub-len
overflow_sub-len c = (read c.args.block.now c.args.i c.entry.result c.get16.result c.requires c.entry.ensures c.get16.ensures).size.0

pub returns : goal.returns
returns c =
    let r = read c.args.block.now c.args.i c.entry.result c.get16.result c.requires c.entry.ensures c.get16.ensures in
    subst (λ (x : ℕ). IsExtent c.args.block.now c.args.i
    (record { begin = c.entry.result - 2; end = c.entry.result - 2 + x; len = c.get16.result - 2 })) (sym c.cost.ensures) r.extent
