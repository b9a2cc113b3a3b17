use Rattle.std.proofs.Common.{sym, subst, false, true}
use Rattle.vm_file.specs.declared.directory.Directory.{Directory}
use Rattle.vm_file.specs.Contents.{listed}
use Rattle.vm_file.specs.Spelling.{empty_contents}
use Rattle.vm_file.specs.State.{FileState, IsSound}
use Rattle.vm_file.proofs.Moments.{leaves_bytes}
use Rattle.vm_file.proofs.NewFiles.{made_found, made_sound}
use Rattle.vm_file.proofs.file.VmFile.create.Goals as goal

pub invariant_of-result : goal.invariant_of-result
invariant_of-result g c =
    let d = g.D.Device in
    let r = c.in-Ok.ensures in
    let F : Directory → Directory → FileState g.row.D.Denot = λ x y. record {
      device = c.write_new.new.device;
      area =
          c.args.area;
      second = false;
      sure = true;
      current = x;
      saved = y;
    } in
    let A : Directory → Type 0 = λ x. IsSound d.medium (F x (listed empty_contents)) in
    let B : Directory → Type 0 = λ y. IsSound d.medium (F c.new.result y) in
    subst B (sym c.new-in-Ok.ensures)
    (subst A (sym c.new.ensures) (made_sound d.medium c.args.device c.write_new.new.device c.args.area c.requires.area
    c.requires.room r.writes.was r.writes.long r.bytes r.durable))

pub returns-in-Ok-clause-found : goal.returns-in-Ok-clause-found
returns-in-Ok-clause-found g c = λ h.
    let d = g.D.Device in
    made_found d.medium c.args.device c.write_new.new.device c.args.area c.requires.area c.requires.room (c.in-Ok.ensures.bytes h)

pub returns-in-Ok-clause-stopped : goal.returns-in-Ok-clause-stopped
returns-in-Ok-clause-stopped g c = leaves_bytes g.D.Device.medium c.args.device (g.met.D.Device.at_once c.args.device) 0 1040
    c.write_new.new.device c.in-Ok.ensures.writes

pub returns-in-Err-clause-stopped : goal.returns-in-Err-clause-stopped
returns-in-Err-clause-stopped g c = leaves_bytes g.D.Device.medium c.args.device (g.met.D.Device.at_once c.args.device) 0 1040
    c.write_new.new.device c.in-Err.ensures.writes
