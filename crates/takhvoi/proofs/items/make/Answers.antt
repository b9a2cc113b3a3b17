-- The search for this takes too long, since the row is long.
use Rattle.std.proofs.Common.{◌∙◌}
use Rattle.geos_terms.specs.Names.{vm}
use Rattle.geos_calls.specs.ChunkCalls.{make_row}
use Rattle.geos_calls.specs.ItemCalls as table
use Rattle.takhvoi.specs.Answers.{Changes, IsToldRead}
use Rattle.takhvoi.specs.Own.{IsPending}
use Rattle.takhvoi.proofs.Calling.{served}
use Rattle.takhvoi.proofs.items.make.Goals as goal

pub returns-clause-served : goal.returns-clause-served
returns-clause-served c =
    let came = Changes (IsToldRead (table.on_group c.args.group (make_row (vm c.args.group) c.args.make)) c.make_in-status.new.told) in
    served IsPending came c.make_in-status.result c.args.handle.now c.put.new.handle _ _ c.in-Some.ensures.some.0
    (c.deref_mut.ensures.value ∙ c.in-Some.ensures.some.1) c.put.ensures.live c.put.ensures.value c.make_in-status.ensures.done
