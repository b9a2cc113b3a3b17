use Rattle.std.proofs.Common.{[], ◌∷◌, subst}
use Rattle.geos_terms.specs.ArrayEdits.{is_past, no_array}
use Rattle.geos_terms.specs.Block.{chunks}
use Rattle.chunk_array.specs.ArrayErrors.{IsArrayError}
use Rattle.chunk_array.proofs.Refusing.{first-stays}
use Rattle.chunk_array.proofs.look.find_element.Goals as goal

pub returns-in-Err-BadChunk : goal.returns-in-Err-BadChunk
returns-in-Err-BadChunk c =
    let cs = chunks c.args.block.now in
    let tests = no_array cs c.args.chunk in
    first-stays tests (is_past cs c.args.chunk c.args.index ∷ []) _
    (subst (λ e. IsArrayError e tests) c.in-Err-BadChunk.field-0-is c.in-Err-BadChunk.ensures)

pub returns-in-Err-BadArray : goal.returns-in-Err-BadArray
returns-in-Err-BadArray c =
    let cs = chunks c.args.block.now in
    let tests = no_array cs c.args.chunk in
    first-stays tests (is_past cs c.args.chunk c.args.index ∷ []) _
    (subst (λ e. IsArrayError e tests) c.in-Err-BadArray.field-0-is c.in-Err-BadArray.ensures)
