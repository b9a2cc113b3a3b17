use Rattle.std.proofs.Common.{◌≡◌, ◌+◌, ◌≤◌, ℕ, take, drop}
use Rattle.std.specs.Prelude.{◌↔◌}
use Rattle.block_handles.specs.Store.{locks_of}
use Rattle.vm_file.specs.State.{Steadily}
use Rattle.vm_blocks.specs.View.{vm_slot}
use Rattle.geos_kernel.specs.Files.{vm_file_of}
use Rattle.geos_kernel.specs.View.{SeesDevice}
use Rattle.geos_machine.specs.Runs.{Throughout}
use Rattle.geos_cli.specs.Script.{IsAllowed, Leads, Unlocks, times}
use Rattle.geos_cli.proofs.lending.unlock_all.Given as goal

abbrev pub invariant-loop-h : goal.invariant-loop-h
invariant-loop-h g l =
    Leads (g.D.Device.medium.honest l.fn.kernel.device) (Throughout g.D.Device.medium l.fn.kernel.device l.kernel.device)
    l.fn.kernel.core l.kernel.core (Unlocks (IsAllowed (g.D.Device.medium.honest l.fn.kernel.device)) (take l.h-index l.handles))
    × ((n : ℕ) → locks_of l.kernel.core.blocks (vm_slot n) + times n (take l.h-index l.handles) ≡ locks_of l.fn.kernel.core.blocks (vm_slot n))
    × ((n : ℕ) → times n (drop l.h-index l.handles) ≤ locks_of l.kernel.core.blocks (vm_slot n))
    × (g.D.Device.medium.honest l.kernel.device ↔ g.D.Device.medium.honest l.fn.kernel.device)
    × SeesDevice g.D.Device.medium l.kernel
    × Steadily g.D.Device.medium (vm_file_of l.fn.kernel) (vm_file_of l.kernel)
