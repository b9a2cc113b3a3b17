-- The opened file is the one that the bytes encode.
use Rattle.std.proofs.Common.{◌≡◌, ◌∙◌, Ok, refl, ap, sym, subst}
use Rattle.vm_file.specs.Reading.{file_at}
use Rattle.vm_file.specs.State.{file_of}
use Rattle.host_device.specs.Journal.{bytes_of}
use Rattle.host_device.proofs.Going.{goes-reading}
use Rattle.takhvoi.specs.Journal.{Leads}
use Rattle.takhvoi.proofs.Notes.{leads-from}
use Rattle.takhvoi.proofs.kernels.takhvoi_open.Goals as goal

pub returns-in-Ok-open-clause-opened : goal.returns-in-Ok-open-clause-opened
returns-in-Ok-open-clause-opened c = λ done.
    let device = c.in-Ok.device in
    let on = c.in-Ok-open.file.device in
    let reads = c.in-Ok-open.ensures.reads in
    let same = c.start.ensures.device done refl in
    record {
      file = c.in-Ok-open.file;
      spelled = subst (λ bs. file_at bs ≡ Ok (file_of bytes_of c.in-Ok-open.file)) c.in-Ok.ensures.bytes (c.in-Ok-open.ensures.exact tt);
      began = c.start.ensures.began done;
      hosts = c.start.ensures.hosts done;
      images = c.start.ensures.images done;
      leads = subst (λ d. Leads c.args.bytes.now d) (sym same)
          (subst (λ bs. Leads bs on) c.in-Ok.ensures.bytes (leads-from device on c.in-Ok.ensures.steps (goes-reading device on reads)));
      holds = ap bytes_of same ∙ reads.same ∙ c.in-Ok.ensures.bytes;
    }
