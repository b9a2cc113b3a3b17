use Rattle.std.proofs.Common.{◌≡◌, take}
use Rattle.std.specs.Prelude.{◌↔◌, None}
use Rattle.vm_blocks.specs.Listed.{NoneLocked}
use Rattle.vm_file.specs.State.{Steadily}
use Rattle.geos_kernel.specs.Files.{vm_file_of}
use Rattle.geos_kernel.specs.View.{SeesDevice}
use Rattle.geos_cli.specs.Begun.{IsBegunOn}
use Rattle.geos_cli.specs.InForm.{RanInForm}
use Rattle.geos_cli.proofs.in_form.carry_out_all_in_form.Given as goal

abbrev pub invariant-loop-numbered : goal.invariant-loop-numbered
invariant-loop-numbered g l =
    RanInForm g.D.Device.medium l.fn.options.form l.fn.options.mode l.fn.checked (take l.numbered-index l.fn.commands) None l.fn.kernel l.kernel
    (g.W.Write.contents l.fn.out.stream) (g.W.Write.contents l.out.stream)
    × (l.out.failures ≡ l.fn.out.failures)
    × (g.D.Device.medium.honest l.kernel.device ↔ g.D.Device.medium.honest l.fn.kernel.device)
    × NoneLocked l.kernel.core.blocks
    × SeesDevice g.D.Device.medium l.kernel
    × Steadily g.D.Device.medium (vm_file_of l.fn.kernel) (vm_file_of l.kernel)
    × IsBegunOn l.fn.checked l.progress.first
