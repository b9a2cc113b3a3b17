use Rattle.std.proofs.Common.{ℕ, List, length, ap, sym, ◌∙◌, subst}
use Rattle.chunk_array.specs.Removals.{HasPart}
use Rattle.chunk_array.proofs.Rewritten.{range-bytes, rewritten}
use Rattle.chunk_array.proofs.change.take_element.Goals as goal

pub returns : goal.returns
returns c =
    let p = c.in-Ok.ensures in
    let r = rewritten c.args.block.now c.args.chunk _ _ c.spell_removed.new.bytes c.requires.heap p.place p.within c.spell_removed.auto.bytes in
    record {
      heap = r.heap;
      handle = r.handle;
      chunks = (λ bytes a there h. let same = range-bytes c.args.block.now _ _ bytes (sym there ∙ p.bytes) in
          record {
            bytes = c.spell_removed.new.bytes;
            long = c.spell_removed.auto.bytes ∙ ap length (sym same);
            chunks = r.chunks;
            spells = c.spell_removed.ensures a (subst (λ (x : List ℕ). HasPart x a c.args.shape c.args.element) same h);
          });
    }
