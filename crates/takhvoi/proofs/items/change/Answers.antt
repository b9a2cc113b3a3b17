-- What is put back is what the call leaves.
use Rattle.std.proofs.Common.{◌∙◌}
use Rattle.geos_terms.specs.Names.{vm}
use Rattle.geos_calls.specs.ChunkCalls.{change_row}
use Rattle.geos_calls.specs.ItemCalls as table
use Rattle.takhvoi.specs.Answers.{Changes, IsAnswerRead}
use Rattle.takhvoi.specs.Own.{IsPending}
use Rattle.takhvoi.proofs.Calling.{served}
use Rattle.takhvoi.proofs.items.change.Goals as goal

pub returns-clause-served : goal.returns-clause-served
returns-clause-served c =
    let came = Changes (IsAnswerRead (table.on_group c.args.group (change_row (vm c.args.group) c.args.change))) in
    served IsPending came c.change_in-status.result c.args.handle.now c.put.new.handle _ _ c.in-Some.ensures.some.0
    (c.deref_mut.ensures.value ∙ c.in-Some.ensures.some.1) c.put.ensures.live c.put.ensures.value c.change_in-status.ensures.done
