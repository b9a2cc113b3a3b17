-- What is put back is what the call leaves.
use Rattle.std.proofs.Common.{◌∙◌}
use Rattle.geos_terms.specs.Names.{vm}
use Rattle.geos_calls.specs.VmCalls as table
use Rattle.takhvoi.specs.Answers.{Changes, IsAnswer}
use Rattle.takhvoi.specs.Own.{MayNotMark}
use Rattle.takhvoi.proofs.Calling.{served}
use Rattle.takhvoi.proofs.vm.takhvoi_vdirty.Goals as goal

pub returns : goal.returns
returns c =
    served (MayNotMark (vm c.args.block)) (Changes (IsAnswer (table.vdirty c.args.block))) c.vdirty-status.result c.args.handle.now c.put.new.handle _ _
    c.in-Some.ensures.some.0 (c.deref_mut.ensures.value ∙ c.in-Some.ensures.some.1) c.put.ensures.live c.put.ensures.value c.vdirty-status.ensures
