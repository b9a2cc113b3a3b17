use Rattle.std.proofs.Common.{Result, Ok, ◌∙◌, sym}
use Rattle.vm_file.specs.declared.device.Disk.{Disk}
use Rattle.vm_file.proofs.Moments.{reads_then, rose}
use Rattle.vm_file.proofs.opened.read_file.Goals as goal

pub returns-in-Err-clause-cause : goal.returns-in-Err-clause-cause
returns-in-Err-clause-cause g c = rose _ _ c.in-Err.ensures.cause.err

pub returns-in-Ok-clause-reads : goal.returns-in-Ok-clause-reads
returns-in-Ok-clause-reads g c = reads_then g.D.Device.medium _ _ _ c.in-Ok.ensures.reads c.read_parts.ensures.reads

pub returns-in-Ok-clause-begins : goal.returns-in-Ok-clause-begins
returns-in-Ok-clause-begins g c =
    let r = c.read_parts.ensures.reads in
    record {
      answer = (let done : Result (Unit {0}) Disk = Ok tt in done);
      synced = c.sync.new.self;
      sync = c.in-Ok.ensures.call;
      refused = tt;
      reads = r;
      lasts = λ h x l. c.in-Ok.ensures.durable h x (r.stop (c.in-Ok.ensures.reads.stays h) x l) ∙ sym r.same;
    }
