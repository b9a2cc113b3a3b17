-- The file that was made is a new one, of which a host's zeros become one.
use Rattle.std.proofs.Common.{◌≡◌, ◌∙◌, ◌+◌, ◌*◌, replicate, ap, sym, subst}
use Rattle.host_device.specs.Journal.{bytes_of}
use Rattle.host_device.proofs.Going.{goes-writing}
use Rattle.takhvoi.specs.Journal.{Leads}
use Rattle.takhvoi.proofs.Notes.{leads-from}
use Rattle.takhvoi.proofs.Starting.{new-file}
use Rattle.takhvoi.proofs.kernels.start_new.Goals as goal

pub returns-in-Ok-create-clause-new : goal.returns-in-Ok-create-clause-new
returns-in-Ok-create-clause-new c = λ done.
    let b = c.start.ensures.began done in
    let device = c.in-Ok.device in
    let on = c.in-Ok-create.file.device in
    let zeros : bytes_of device ≡ replicate (1024 + 2 * c.args.area) 0 = c.in-Ok.ensures.bytes ∙ ap (λ n. replicate n 0) c.device_length.ensures in
    record {
      tied = new-file c.in-Ok-create.file c.args.area c.args.region c.start.new.handle.value.kernel.core b c.in-Ok-create.ensures.file;
      store = b.store;
      hosts = c.start.ensures.hosts done;
      images = c.start.ensures.images done;
      leads = λ hosted. subst (λ d. Leads (replicate (1024 + 2 * c.args.area) 0) d) (sym (c.start.ensures.device done hosted))
          (subst (λ bs. Leads bs on) zeros
          (leads-from device on c.in-Ok.ensures.steps (goes-writing device on 0 1040 c.in-Ok-create.ensures.writes)));
      alone = c.start.ensures.alone done;
    }
