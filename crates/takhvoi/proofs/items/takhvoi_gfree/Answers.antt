-- What is put back is what the call leaves.
use Rattle.std.proofs.Common.{◌∙◌}
use Rattle.geos_calls.specs.ItemCalls as table
use Rattle.takhvoi.specs.Answers.{Changes, IsAnswer}
use Rattle.takhvoi.specs.Own.{IsPending}
use Rattle.takhvoi.proofs.Calling.{served}
use Rattle.takhvoi.proofs.items.takhvoi_gfree.Goals as goal

pub returns : goal.returns
returns c =
    served IsPending (Changes (IsAnswer (table.gfree c.args.group))) c.gfree-status.result c.args.handle.now c.put.new.handle _ _
    c.in-Some.ensures.some.0 (c.deref_mut.ensures.value ∙ c.in-Some.ensures.some.1) c.put.ensures.live c.put.ensures.value c.gfree-status.ensures
