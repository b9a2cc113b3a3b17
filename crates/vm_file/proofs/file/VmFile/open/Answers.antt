use Rattle.std.proofs.Common.{◌≡◌, sym, subst, true}
use Rattle.std.specs.Prelude.{Ok, Result, ℕ}
use Rattle.vm_file.specs.declared.directory.Directory.{Directory}
use Rattle.vm_file.specs.Reading.{File, file_at}
use Rattle.vm_file.specs.State.{FileState, IsSound, file_of}
use Rattle.vm_file.proofs.StateLaws.{opens, opens_sound}
use Rattle.vm_file.proofs.Moments.{leaves_alike}
use Rattle.vm_file.proofs.Given.{begins_so}
use Rattle.vm_file.proofs.file.VmFile.open.Goals as goal

pub invariant_of-result : goal.invariant_of-result
invariant_of-result g c =
    let d = g.D.Device in
    let r = c.in-Ok.ensures in
    let opened = c.in-Ok.field-0 in
    let file : Directory → FileState g.row.D.Denot = λ current. record {
      device = c.read_file.new.device;
      area =
          opened.area;
      second = opened.second;
      sure = true;
      current = current;
      saved = opened.saved;
    } in
    subst (λ (current : Directory). IsSound d.medium (file current)) (sym c.of.ensures)
    (opens_sound d.medium c.args.device c.read_file.new.device opened r.reads r.exact r.legal r.durable)

pub returns-in-Ok-clause-exact : goal.returns-in-Ok-clause-exact
returns-in-Ok-clause-exact g c = λ h.
    let d = g.D.Device in
    let r = c.in-Ok.ensures in
    let opened = c.in-Ok.field-0 in
    let file : Directory → FileState g.row.D.Denot = λ current. record {
      device = c.read_file.new.device;
      area =
          opened.area;
      second = opened.second;
      sure = true;
      current = current;
      saved = opened.saved;
    } in
    let answer : FileState g.row.D.Denot → Result File ℕ = λ f. Ok (file_of d.medium.image f) in
    subst (λ (current : Directory). file_at (d.medium.image c.args.device) ≡ answer (file current)) (sym c.of.ensures)
    (opens d.medium c.args.device c.read_file.new.device opened r.reads.same (r.exact h))

pub returns-in-Ok-clause-begins : goal.returns-in-Ok-clause-begins
returns-in-Ok-clause-begins g c = begins_so g.D.Device.medium _ _ c.args.device c.read_file.new.device (λ is. absurd cc) c.in-Ok.ensures.begins

pub returns-in-Err-clause-begins : goal.returns-in-Err-clause-begins
returns-in-Err-clause-begins g c = begins_so g.D.Device.medium _ _ c.args.device c.read_file.new.device (λ is. cc) c.in-Err.ensures.begins

pub returns-in-Ok-clause-stopped : goal.returns-in-Ok-clause-stopped
returns-in-Ok-clause-stopped g c = leaves_alike g.D.Device.medium c.args.device (g.met.D.Device.at_once c.args.device)
    c.read_file.new.device c.in-Ok.ensures.reads

pub returns-in-Err-clause-stopped : goal.returns-in-Err-clause-stopped
returns-in-Err-clause-stopped g c = leaves_alike g.D.Device.medium c.args.device (g.met.D.Device.at_once c.args.device)
    c.read_file.new.device c.in-Err.ensures.reads
