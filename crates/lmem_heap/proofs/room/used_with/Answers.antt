use Rattle.std.proofs.Common.{None, Some, ap, arith}
use Rattle.geos_terms.specs.Chunks.{cost}
use Rattle.geos_terms.specs.Block.{chunks}
use Rattle.geos_terms.proofs.Costs.{cost-most}
use Rattle.geos_terms.proofs.Sums.{count-chunks}
use Rattle.geos_terms.proofs.Lowest.{block-used, used-set}
use Rattle.geos_terms.proofs.Places.{placed-cost}
use Rattle.lmem_heap.proofs.room.used_with.Goals as goal

pub overflow_sub-result : goal.overflow_sub-result
overflow_sub-result c =
    let b = c.args.block.now in
    let p = c.place_of_entry-len.ensures in
    let n = count-chunks b in
    let k = placed-cost b c.args.i _ c.requires.known p.place p.within in
    let s = used-set (chunks b) c.args.i None (omega (arith, n)) in
    omega (arith, k, s, c.used_bytes.ensures, c.cost.ensures)

pub overflow_add-result : goal.overflow_add-result
overflow_add-result c = omega (
  arith,
  block-used c.args.block.now c.requires.heap,
  cost-most c.args.n,
  c.requires.heap.0.most,
  c.requires.small,
  c.used_bytes.ensures,
  c.cost-2.ensures,
)

pub returns-clause-value : goal.returns-clause-value
returns-clause-value c bytes long =
    let b = c.args.block.now in
    let p = c.place_of_entry-len.ensures in
    let n = count-chunks b in
    let k = placed-cost b c.args.i _ c.requires.known p.place p.within in
    let s = used-set (chunks b) c.args.i (Some bytes) (omega (arith, n)) in
    let m = ap cost long in
    let t = used-set (chunks b) c.args.i None (omega (arith, n)) in
    omega (arith, k, s, t, m, c.used_bytes.ensures, c.cost.ensures, c.cost-2.ensures)

pub returns-clause-small : goal.returns-clause-small
returns-clause-small c = omega (
  arith,
  block-used c.args.block.now c.requires.heap,
  cost-most c.args.n,
  c.requires.heap.0.most,
  c.requires.small,
  c.used_bytes.ensures,
  c.cost-2.ensures,
)
