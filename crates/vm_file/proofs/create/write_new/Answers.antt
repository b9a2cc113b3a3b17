use Rattle.std.proofs.Common.{◌∙◌, ℕ, length, ap, subst}
use Rattle.std.proofs.lemmas.Result.{on_ok_weaker}
use Rattle.lmem_raw.specs.Bytes.{with_part}
use Rattle.vm_file.specs.Outcomes.{WritesOnly}
use Rattle.vm_file.proofs.create.write_new.Goals as goal

pub returns-clause-bytes : goal.returns-clause-bytes
returns-clause-bytes g c = λ h.
    on_ok_weaker c.write_durably.result (λ is. is ∙ ap (with_part (g.D.Device.medium.image c.args.device.now) 0) c.new_file-bytes.ensures)
    (c.write_durably.ensures.written h)

pub returns-clause-writes : goal.returns-clause-writes
returns-clause-writes g c = subst (λ (k : ℕ). WritesOnly g.D.Device.medium 0 k c.args.device.now c.write_durably.new.device)
    (ap length c.new_file-bytes.ensures) c.write_durably.ensures.writes
