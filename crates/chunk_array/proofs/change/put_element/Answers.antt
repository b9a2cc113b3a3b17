use Rattle.std.proofs.Common.{ℕ, List, ap, sym, ◌∙◌, subst}
use Rattle.geos_terms.specs.Chunks.{with_bytes}
use Rattle.geos_terms.specs.Block.{chunks}
use Rattle.chunk_array.specs.Insertions.{HasRoom}
use Rattle.chunk_array.proofs.Rewritten.{range-bytes, rewritten}
use Rattle.chunk_array.proofs.change.put_element.Goals as goal

pub returns : goal.returns
returns c =
    let b = c.args.block.now in
    let p = c.in-Ok.ensures in
    let r = rewritten b c.args.chunk _ _ c.spell_inserted.new.bytes c.requires.heap p.place p.within c.spell_inserted.auto.bytes in
    record {
      heap = r.heap;
      handle = r.handle;
      chunks = (λ bytes before a there h. r.chunks ∙ ap (with_bytes (chunks b) c.args.chunk)
          (c.spell_inserted.ensures before a (subst (λ (x : List ℕ). HasRoom x before a c.args.shape c.args.element)
          (range-bytes b _ _ bytes (sym there ∙ p.bytes)) h)));
    }
