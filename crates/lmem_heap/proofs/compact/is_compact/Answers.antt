use Rattle.std.proofs.Common.{◌∙◌, arith}
use Rattle.geos_terms.proofs.FreePieces.{first-room}
use Rattle.lmem_heap.proofs.Unwritten.{but-head}
use Rattle.lmem_heap.proofs.compact.is_compact.Goals as goal

pub get16-first-requires : goal.get16-first-requires
get16-first-requires c = omega (arith, c.requires.1.long, c.requires.1.is.0.least)

pub get16-size-requires : goal.get16-size-requires
get16-size-requires c =
    let r = first-room c.requires.0 c.get16-first.result c.requires.1.is (c.get16-first.ensures
    ∙ but-head c.args.block.now c.requires.0 12 c.requires.1 (omega arith)) c.if-first-eq0.false in
    omega (arith, r.1, r.2, c.requires.1.long)
