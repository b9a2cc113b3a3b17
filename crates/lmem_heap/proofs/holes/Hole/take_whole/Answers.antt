use Rattle.std.proofs.Common.{◌+◌, refl, ap, arith}
use Rattle.lmem_heap.proofs.FreeLists.{open-place}
use Rattle.lmem_heap.proofs.Taking.{free-fits, whole-taken}
use Rattle.lmem_heap.proofs.holes.Hole.take_whole.Goals as goal

pub get16-size-requires : goal.get16-size-requires
get16-size-requires c = let f = free-fits _ _ _ _ c.requires.hole c.requires.behind in omega (arith, f.four, f.inside)

pub overflow_add-self : goal.overflow_add-self
overflow_add-self c = let f = free-fits _ _ _ _ c.requires.hole c.requires.behind in omega (arith, f.four, f.inside, c.requires.hole.is.header.most)

pub get16-next-requires : goal.get16-next-requires
get16-next-requires c = let f = free-fits _ _ _ _ c.requires.hole c.requires.behind in omega (arith, f.four, f.inside)

pub put16-requires : goal.put16-requires
put16-requires c = let p = open-place _ _ _ _ c.requires.hole.is in omega (arith, p.link_high, p.high, c.requires.hole.is.order)

pub overflow_sub-total : goal.overflow_sub-total
overflow_sub-total c = omega (arith, (free-fits _ _ _ _ c.requires.hole c.requires.behind).sum, c.get16-size.ensures, c.get16-total.ensures)

pub overflow_add-result : goal.overflow_add-result
overflow_add-result c = omega (
  arith,
  (free-fits _ _ _ _ c.requires.hole c.requires.behind).inside,
  c.requires.hole.is.header.most,
  c.get16-size.ensures,
)

pub returns : goal.returns
returns c =
    let h = c.args.self in
    let f = free-fits _ _ _ _ c.requires.hole c.requires.behind in
    let size = c.get16-size.ensures in
    let t = whole-taken c.args.block.now c.put16.new.block c.put16-2.new.block h.link h.at h.end c.get16-size.result
    c.get16-next.result _ c.requires.hole c.requires.behind size c.get16-next.ensures (omega arith)
    (omega (arith, f.sum, size, c.get16-total.ensures)) c.put16.ensures c.put16-2.ensures in
    record { wider = t.0; place = (refl, refl, ap (λ x. h.end + x) size); apart = t.1 }
