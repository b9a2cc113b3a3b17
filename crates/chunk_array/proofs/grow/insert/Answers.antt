use Rattle.std.proofs.Common.{[], ◌∷◌, arith, subst}
use Rattle.std.specs.Prelude.{nat_lt}
use Rattle.lmem_raw.specs.Bytes.{part}
use Rattle.geos_terms.specs.Block.{chunks}
use Rattle.geos_terms.specs.declared.refusal.Refusal.TheVariants.{BadElement}
use Rattle.geos_terms.specs.ArrayEdits.{count_of, no_array}
use Rattle.geos_terms.proofs.ArrayTests.{insert-passes}
use Rattle.chunk_array.specs.ArrayErrors.{IsArrayError}
use Rattle.chunk_array.proofs.ReadBack.{inserts}
use Rattle.chunk_array.proofs.Refusing.{first-stays}
use Rattle.chunk_array.proofs.grow.insert.Goals as goal

pub returns-in-Ok-insert_at-clause-ok : goal.returns-in-Ok-insert_at-clause-ok
returns-in-Ok-insert_at-clause-ok c =
    let cs = chunks c.args.block.now in
    let f = c.in-Ok.ensures in
    let bytes = part c.args.block.now c.in-Ok.found.at c.in-Ok.found.len in
    (insert-passes cs c.args.chunk bytes f.shape.array f.bytes f.shape.is c.args.index (omega (arith, f.shape.count)), c.in-Ok-insert_at.ensures.ok)

pub returns-in-Ok-insert_at-clause-array : goal.returns-in-Ok-insert_at-clause-array
returns-in-Ok-insert_at-clause-array c = (let ok = returns-in-Ok-insert_at-clause-ok c in
    inserts (chunks c.args.block.now) (chunks c.insert_at.new.block) c.args.chunk c.args.index c.args.len ok.0 ok.1)

pub returns-in-Err-BadChunk-clause-refused : goal.returns-in-Err-BadChunk-clause-refused
returns-in-Err-BadChunk-clause-refused c =
    let cs = chunks c.args.block.now in
    let tests = no_array cs c.args.chunk in
    first-stays tests ((nat_lt (count_of cs c.args.chunk) c.args.index, BadElement) ∷ []) _
    (subst (λ e. IsArrayError e tests) c.in-Err-BadChunk.field-0-is c.in-Err-BadChunk.ensures)

pub returns-in-Err-BadArray-clause-refused : goal.returns-in-Err-BadArray-clause-refused
returns-in-Err-BadArray-clause-refused c =
    let cs = chunks c.args.block.now in
    let tests = no_array cs c.args.chunk in
    first-stays tests ((nat_lt (count_of cs c.args.chunk) c.args.index, BadElement) ∷ []) _
    (subst (λ e. IsArrayError e tests) c.in-Err-BadArray.field-0-is c.in-Err-BadArray.ensures)
