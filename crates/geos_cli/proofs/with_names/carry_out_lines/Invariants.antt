use Rattle.std.proofs.Common.{◌≡◌, take, map}
use Rattle.std.specs.Prelude.{◌↔◌}
use Rattle.vm_blocks.specs.Listed.{NoneLocked}
use Rattle.vm_file.specs.State.{Steadily}
use Rattle.geos_kernel.specs.Files.{vm_file_of}
use Rattle.geos_kernel.specs.View.{SeesDevice}
use Rattle.script_commands.specs.Names.{names_of, said_by}
use Rattle.geos_cli.specs.Begun.{IsBegunOn}
use Rattle.geos_cli.proofs.NamedRun.{RanSoFar}
use Rattle.geos_cli.proofs.with_names.carry_out_lines.Given as goal

abbrev pub invariant-loop-line : goal.invariant-loop-line
invariant-loop-line g l =
    RanSoFar g.D.Device.medium l.fn.options.form l.fn.options.mode l.fn.checked (map said_by (take l.line-index l.fn.lines))
    (names_of l.names.items) l.fn.kernel l.kernel
    (g.W.Write.contents l.fn.out.stream) (g.W.Write.contents l.out.stream)
    × (l.out.failures ≡ l.fn.out.failures)
    × (g.D.Device.medium.honest l.kernel.device ↔ g.D.Device.medium.honest l.fn.kernel.device)
    × NoneLocked l.kernel.core.blocks
    × SeesDevice g.D.Device.medium l.kernel
    × Steadily g.D.Device.medium (vm_file_of l.fn.kernel) (vm_file_of l.kernel)
    × IsBegunOn l.fn.checked l.progress.first
