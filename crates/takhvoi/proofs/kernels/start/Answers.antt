-- What was made on the file is what the handle holds then.
use Rattle.std.proofs.Common.{◌∙◌, ap}
use Rattle.vm_file.specs.State.{FileState}
use Rattle.geos_kernel.specs.View.{KernelOn}
use Rattle.host_device.specs.Journal.{journal_of}
use Rattle.host_device.specs.declared.device.HostDevice.{HostDevice}
use Rattle.takhvoi.specs.declared.system.System.{System}
use Rattle.takhvoi.proofs.Starting.{began-with}
use Rattle.takhvoi.proofs.kernels.start.Goals as goal

pub returns-in-Ok-new-clause-began : goal.returns-in-Ok-new-clause-began
returns-in-Ok-new-clause-began c = λ done.
    let e = c.in-Ok.ensures in
    let same = ap (λ (s : System). s.kernel.core) (c.put-in-Ok-new.ensures.value ∙ c.in-Ok-new.ensures.ok)
    ∙ ap (λ (k : KernelOn HostDevice). k.core) c.of.ensures.kernel ∙ c.rest.ensures.core in
    began-with c.args.file c.args.region c.in-Ok.kernel c.put-in-Ok-new.new.handle.value.kernel.core same e.store e.file e.lists e.tied

pub returns-in-Ok-new-clause-device : goal.returns-in-Ok-new-clause-device
returns-in-Ok-new-clause-device c = λ done hosted.
    let on = λ (k : KernelOn HostDevice). k.device in
    ap (λ (s : System). on s.kernel) (c.put-in-Ok-new.ensures.value ∙ c.in-Ok-new.ensures.ok) ∙ ap on c.of.ensures.kernel
    ∙ ap on (c.rest.ensures.hosted hosted) ∙ ap (λ (f : FileState HostDevice). f.device) c.in-Ok.ensures.file

pub returns-in-Ok-new-clause-alone : goal.returns-in-Ok-new-clause-alone
returns-in-Ok-new-clause-alone c = λ done alone.
    let on = λ (k : KernelOn HostDevice). journal_of k.device in
    ap (λ (s : System). on s.kernel) (c.put-in-Ok-new.ensures.value ∙ c.in-Ok-new.ensures.ok) ∙ ap on c.of.ensures.kernel
    ∙ c.rest.ensures.alone alone

pub returns-in-Ok-new-clause-images : goal.returns-in-Ok-new-clause-images
returns-in-Ok-new-clause-images c = λ done.
    ap (λ (s : System). s.images.items) (c.put-in-Ok-new.ensures.value ∙ c.in-Ok-new.ensures.ok) ∙ c.of.ensures.images
