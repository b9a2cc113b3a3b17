use Rattle.std.proofs.Common.{ap}
use Rattle.block_handles.specs.Store.{locks_in}
use Rattle.vm_blocks.specs.View.{vm_slot}
use Rattle.geos_runs.proofs.calling.Job.run_on.Goals as goal

pub run-done-requires : goal.run-done-requires
run-done-requires c = λ h p. ap locks_in (c.in-Ok.ensures.store.none (vm_slot h))
