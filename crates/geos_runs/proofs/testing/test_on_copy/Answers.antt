use Rattle.std.proofs.Common.{ap}
use Rattle.block_handles.specs.Store.{locks_in}
use Rattle.vm_blocks.specs.View.{vm_slot}
use Rattle.geos_runs.proofs.testing.test_on_copy.Goals as goal

pub test_on-requires : goal.test_on-requires
test_on-requires c = λ h p. ap locks_in (c.in-Ok.ensures.store.none (vm_slot h))
