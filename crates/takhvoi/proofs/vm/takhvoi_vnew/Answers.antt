-- What is put back is what the call leaves.
use Rattle.std.proofs.Common.{◌∙◌}
use Rattle.geos_calls.specs.VmCalls as table
use Rattle.takhvoi.specs.Answers.{Changes, IsTold}
use Rattle.takhvoi.specs.Own.{IsPending}
use Rattle.takhvoi.proofs.Calling.{served}
use Rattle.takhvoi.proofs.vm.takhvoi_vnew.Goals as goal

pub returns-clause-served : goal.returns-clause-served
returns-clause-served c =
    served IsPending (Changes (IsTold (table.vnew c.args.uid) c.vnew-status.new.told)) c.vnew-status.result c.args.handle.now c.put.new.handle _ _
    c.in-Some.ensures.some.0 (c.deref_mut.ensures.value ∙ c.in-Some.ensures.some.1) c.put.ensures.live c.put.ensures.value c.vnew-status.ensures.done
