use Rattle.std.proofs.Common.{[], ap, sym, ◌∙◌, subst}
use Rattle.lmem_raw.specs.Bytes.{part}
use Rattle.geos_terms.specs.Block.{chunks}
use Rattle.geos_terms.specs.Arrays.{with_element}
use Rattle.geos_terms.specs.ArrayEdits.{array_of, no_array, with_array}
use Rattle.chunk_array.specs.ArrayErrors.{IsArrayError}
use Rattle.geos_terms.proofs.ArrayTests.{count-of, array-passes}
use Rattle.chunk_array.proofs.ReadBack.{appends}
use Rattle.chunk_array.proofs.grow.append.Goals as goal

pub returns-in-Err-BadChunk-clause-refused : goal.returns-in-Err-BadChunk-clause-refused
returns-in-Err-BadChunk-clause-refused c = subst (λ e. IsArrayError e (no_array (chunks c.args.block.now) c.args.chunk))
    c.in-Err-BadChunk.field-0-is c.in-Err-BadChunk.ensures

pub returns-in-Err-BadArray-clause-refused : goal.returns-in-Err-BadArray-clause-refused
returns-in-Err-BadArray-clause-refused c = subst (λ e. IsArrayError e (no_array (chunks c.args.block.now) c.args.chunk))
    c.in-Err-BadArray.field-0-is c.in-Err-BadArray.ensures

pub returns-in-Ok-insert_at-clause-ok : goal.returns-in-Ok-insert_at-clause-ok
returns-in-Ok-insert_at-clause-ok c =
    let cs = chunks c.args.block.now in
    let f = c.in-Ok.ensures in
    let bytes = part c.args.block.now c.in-Ok.found.at c.in-Ok.found.len in
    let count = count-of cs c.args.chunk bytes f.shape.array f.bytes f.shape.is in (
      array-passes cs c.args.chunk bytes f.shape.array f.bytes f.shape.is [],
      c.in-Ok-insert_at.ensures.ok ∙ ap (λ k. with_array cs c.args.chunk (with_element (array_of cs c.args.chunk) k c.args.len))
          (sym f.shape.count ∙ sym count),
    )

pub returns-in-Ok-insert_at-clause-array : goal.returns-in-Ok-insert_at-clause-array
returns-in-Ok-insert_at-clause-array c = (let ok = returns-in-Ok-insert_at-clause-ok c in
    appends (chunks c.args.block.now) (chunks c.insert_at.new.block) c.args.chunk c.args.len ok.0 ok.1)
