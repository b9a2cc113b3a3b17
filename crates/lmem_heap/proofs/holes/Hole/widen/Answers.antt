use Rattle.std.proofs.Common.{◌≡◌, get_or, refl, ap, sym, ◌∙◌, arith}
use Rattle.lmem_heap.proofs.FreeLists.{open-place}
use Rattle.lmem_heap.proofs.Taking.{free-fits}
use Rattle.lmem_heap.proofs.holes.Hole.widen.Goals as goal

pub get16-requires : goal.get16-requires
get16-requires c = let p = open-place _ _ _ _ c.requires.hole.is in omega (arith, p.link_high, p.high, c.requires.hole.is.order)

pub get16-requires-2 : goal.get16-requires-2
get16-requires-2 c = let f = free-fits _ _ _ _ c.requires.hole (sym c.get16.ensures ∙ c.if-get16-self.false) in omega (arith, f.four, f.inside)

pub returns-then-has-size-clause-room : goal.returns-then-has-size-clause-room
returns-then-has-size-clause-room c = record {
  beside = c.requires.hole;
  room = omega (arith, c.if-has-size.true, c.requires.hole.is.order);
  fours = c.requires.fours.0;
  chunks = refl;
  handle = refl;
  count = refl;
  each = (λ j l. refl);
  bytes = (λ j k e g r. let same : j ≡ k = omega arith in ap (λ x. get_or c.args.block.now x 0) same);
}

pub returns-clause-room : goal.returns-clause-room
returns-clause-room c =
    let w = c.take.ensures.wider in
    let p = c.take.ensures.place in
    rw (p.0, p.1) (record {
      beside = w.beside;
      room = omega (arith, p.1, p.2, c.requires.hole.is.order);
      fours = omega (arith, p.2, c.requires.fours, c.requires.hole.is.fours, c.requires.hole.is.order);
      chunks = w.chunks;
      handle = w.handle;
      count = w.count;
      each = w.each;
      bytes = w.bytes;
    })
