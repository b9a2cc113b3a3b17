use Rattle.std.proofs.Common.{ℕ, ◌+◌, sym, ◌∙◌, subst, inl, inr, arith}
use Rattle.lmem_heap.specs.Holes.{IsOpen}
use Rattle.lmem_heap.proofs.FreeLists.{open-next, open-beside, open-place}
use Rattle.lmem_heap.proofs.holes.Hole.at.Goals as goal

pub get16-next-requires-in-loop-next : goal.get16-next-requires-in-loop-next
get16-next-requires-in-loop-next c =
    let i = c.loop-next.invariant in
    let p = open-place c.args.block.now c.loop-next.link c.args.at c.args.end i.is in
    let n = open-next c.args.block.now c.loop-next.link c.args.at c.args.end i.is (λ z. c.loop-next-test.true (i.next ∙ z))
    (omega (arith, i.next, c.if-next-at.true)) in
    omega (arith, n.inside, n.four, i.next, p.high, i.is.order)

pub loop-next-smaller : goal.loop-next-smaller
loop-next-smaller c =
    let i = c.loop-next.invariant in
    let p = open-place c.args.block.now c.loop-next.link c.args.at c.args.end i.is in
    let n = open-next c.args.block.now c.loop-next.link c.args.at c.args.end i.is (λ z. c.loop-next-test.true (i.next ∙ z))
    (omega (arith, i.next, c.if-next-at.true)) in
    omega (arith, n.above, n.inside, n.four, i.next, p.high, p.link_high, i.is.order)

pub loop-next-preserved : goal.loop-next-preserved
loop-next-preserved c =
    let w = c.loop-next.invariant.next in
    let n = open-next c.args.block.now c.loop-next.link c.args.at c.args.end c.loop-next.invariant.is
    (λ z. c.loop-next-test.true (w ∙ z)) (omega (arith, w, c.if-next-at.true)) in
    record { is = subst (λ (x : ℕ). IsOpen c.args.block.now (x + 2) c.args.at c.args.end) (sym w) n.is; next = c.get16-next-in-loop-next.ensures }

pub returns-else-next-at-clause-hole : goal.returns-else-next-at-clause-hole
returns-else-next-at-clause-hole c =
    open-beside c.args.block.now c.loop-next.link c.args.at c.args.end c.loop-next.invariant.is
    (inr (omega (arith, c.loop-next.invariant.next, c.if-next-at.false)))

pub returns-after-loop-next-clause-hole : goal.returns-after-loop-next-clause-hole
returns-after-loop-next-clause-hole c =
    open-beside c.args.block.now c.loop-next.link c.args.at c.args.end c.loop-next.invariant.is
    (inl (omega (arith, c.loop-next.invariant.next, c.loop-next-test.false)))
