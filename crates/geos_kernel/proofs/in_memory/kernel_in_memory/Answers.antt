use Rattle.std.proofs.Common.{length, subst, ap, ◌∙◌, arith}
use Rattle.std.proofs.lemmas.List.{length-replicate}
use Rattle.vm_file.specs.Contents.{listed}
use Rattle.vm_file.specs.Memory.{IsHonest, bytes_of, failures_of}
use Rattle.vm_file.specs.Spelling.{empty_contents}
use Rattle.vm_file.specs.State.{FileState}
use Rattle.vm_file.specs.declared.directory.Directory.{Directory}
use Rattle.vm_file.specs.declared.memory.MemoryDevice.{MemoryDevice}
use Rattle.vm_blocks.specs.Listed.{IsListOf}
use Rattle.vm_blocks.specs.View.{vm_slot}
use Rattle.geos_kernel.proofs.Opened.{file-begun}
use Rattle.geos_kernel.proofs.in_memory.kernel_in_memory.Goals as goal

pub returns-in-Ok-new-clause-tied : goal.returns-in-Ok-new-clause-tied
returns-in-Ok-new-clause-tied c =
    let k = c.in-Ok-new.kernel in
    let file = c.in-Ok-new.ensures.file ∙ c.in-Ok.ensures.file in
    let current = ap (λ (f : FileState MemoryDevice). f.current) c.in-Ok.ensures.file in
    let lists : IsListOf k.core.vm (listed empty_contents) = subst (λ (d : Directory). IsListOf k.core.vm d) current c.in-Ok-new.ensures.lists in
    file-begun (IsHonest k.device) k.core 65536 (ap (λ (f : FileState MemoryDevice). f.area) file)
    (ap (λ (f : FileState MemoryDevice). f.sure) file) (ap (λ (f : FileState MemoryDevice). f.current) file)
    (ap (λ (f : FileState MemoryDevice). f.saved) file) lists (λ h p. c.in-Ok-new.ensures.store.none (vm_slot h))

pub returns-in-Ok-new-clause-failures : goal.returns-in-Ok-new-clause-failures
returns-in-Ok-new-clause-failures c =
    let device = ap (λ (f : FileState MemoryDevice). f.device) c.in-Ok-new.ensures.file in
    c.memory_is_legal.ensures.sees ∙ ap failures_of device ∙ c.in-Ok.ensures.cause ∙ c.in_ok-device.ensures.failures

pub returns-in-Ok-new-clause-room : goal.returns-in-Ok-new-clause-room
returns-in-Ok-new-clause-room c =
    let file = c.in-Ok-new.ensures.file in
    let area = ap (λ (f : FileState MemoryDevice). f.area) (file ∙ c.in-Ok.ensures.file) in
    let device = ap (λ (f : FileState MemoryDevice). length (bytes_of f.device)) file in
    let new = ap length c.in_ok-device.ensures.bytes ∙ length-replicate c.device_length.result 0 in
    omega (arith, area, device, c.in-Ok.ensures.writes.long, new, c.device_length.ensures)
