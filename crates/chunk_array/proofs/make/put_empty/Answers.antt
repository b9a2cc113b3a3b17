use Rattle.std.proofs.Common.{ap, ◌∙◌}
use Rattle.geos_terms.specs.Chunks.{with_bytes}
use Rattle.geos_terms.specs.Block.{chunks}
use Rattle.chunk_array.proofs.Rewritten.{rewritten}
use Rattle.chunk_array.proofs.make.put_empty.Goals as goal

pub returns : goal.returns
returns c =
    let r = rewritten c.args.block.now c.args.chunk _ _ c.put_header.new.bytes c.requires.heap c.in-Ok.ensures.place
    c.in-Ok.ensures.within c.put_header.auto.bytes in
    record { heap = r.heap; handle = r.handle; chunks = r.chunks ∙ ap (with_bytes (chunks c.args.block.now) c.args.chunk) c.put_header.ensures }
