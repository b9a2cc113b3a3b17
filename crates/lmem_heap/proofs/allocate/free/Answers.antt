use Rattle.std.proofs.Common.{◌≡◌, None, set, ap, ◌∙◌, arith}
use Rattle.geos_terms.specs.Chunks.{entry_of}
use Rattle.geos_terms.specs.Block.{chunks}
use Rattle.geos_terms.proofs.Nexts.{some-chunk}
use Rattle.lmem_heap.proofs.allocate.free.Goals as goal

pub returns-clause-ok : goal.returns-clause-ok
returns-clause-ok c =
    let f = c.in_ok-i.ensures.found in
    let index : c.in_ok-i.i ≡ entry_of c.args.chunk = omega (arith, f.0) in (
      some-chunk c.args.block.now c.in_ok-i.i c.args.chunk f.1 f.2 f.0,
      c.release_chunk.ensures.chunks ∙ ap (λ x. set (chunks c.args.block.now) x None) index,
    )
