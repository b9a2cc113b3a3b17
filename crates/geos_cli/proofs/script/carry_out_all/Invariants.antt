use Rattle.std.proofs.Common.{◌≡◌, None, take}
use Rattle.std.specs.Prelude.{◌↔◌}
use Rattle.vm_blocks.specs.Listed.{NoneLocked}
use Rattle.vm_file.specs.State.{Steadily}
use Rattle.geos_kernel.specs.Files.{vm_file_of}
use Rattle.geos_kernel.specs.View.{SeesDevice}
use Rattle.geos_machine.specs.Runs.{Throughout}
use Rattle.script_commands.specs.MayCommit.{last_may_commit}
use Rattle.geos_cli.specs.Script.{RanCommands}
use Rattle.geos_cli.proofs.script.carry_out_all.Given as goal

abbrev pub invariant-loop-numbered : goal.invariant-loop-numbered
invariant-loop-numbered g l =
    RanCommands l.fn.mode (g.D.Device.medium.honest l.fn.kernel.device) (Throughout g.D.Device.medium l.fn.kernel.device l.kernel.device)
    l.fn.checked (take l.numbered-index l.fn.commands) None l.fn.kernel.core l.kernel.core
    (g.W.Write.contents l.fn.out.stream) (g.W.Write.contents l.out.stream)
    × (l.out.failures ≡ l.fn.out.failures)
    × (g.D.Device.medium.honest l.kernel.device ↔ g.D.Device.medium.honest l.fn.kernel.device)
    × NoneLocked l.kernel.core.blocks
    × SeesDevice g.D.Device.medium l.kernel
    × Steadily g.D.Device.medium (vm_file_of l.fn.kernel) (vm_file_of l.kernel)
    × (l.behind ≡ last_may_commit l.fn.checked (take l.numbered-index l.fn.commands))
