use Rattle.std.proofs.Common.{refl}
use Rattle.vm_blocks.specs.Opened.{opened_file, opened_memory}
use Rattle.vm_blocks.specs.Tied.{NoneResident}
use Rattle.geos_kernel.specs.View.{core_of}
use Rattle.geos_kernel.proofs.Opened.{empty-memory, kernel-opened}
use Rattle.geos_kernel.proofs.Seen.{file-seen}
use Rattle.geos_kernel.proofs.kernel.Kernel.new.Goals as goal

pub invariant_of-result : goal.invariant_of-result
invariant_of-result g c =
    let s = c.in-Ok.blocks in
    let none : NoneResident s = λ h p. c.in-Ok.ensures.none _ in
    kernel-opened s c.args.region c.in-Ok.ensures g.D.Device.medium c.in-Ok-new.vm (opened_memory g.D.Device.medium.image c.args.file s)
    c.requires.1 (c.in-Ok-new.ensures.tied s c.in-Ok.ensures.laid none)
    (c.in-Ok-new.ensures.memory s none)

pub returns-in-Ok-new-clause-tied : goal.returns-in-Ok-new-clause-tied
returns-in-Ok-new-clause-tied g c =
    let d = g.D.Device in
    let s = c.in-Ok.blocks in
    let v = c.in-Ok-new.vm in
    file-seen d.medium v s (opened_file d.medium.image c.args.file) (c.in-Ok-new.ensures.memory s (λ h p. c.in-Ok.ensures.none _)).file

pub returns-in-Ok-new-clause-memory : goal.returns-in-Ok-new-clause-memory
returns-in-Ok-new-clause-memory g c = λ f. empty-memory c.in-Ok.blocks c.args.region c.in-Ok.ensures
    (core_of g.D.Device.medium c.in-Ok-new.vm c.in-Ok.blocks) refl f
