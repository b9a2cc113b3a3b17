use Rattle.std.proofs.Common.{◌≡◌, ◌∙◌, ◌+◌, ◌-◌, ◌∷◌, ◌++◌, [], length, take, drop, arith}
use Rattle.host_device.specs.Notes.{Write}
use Rattle.host_device.specs.Journal.{bytes_of, journal_of}
use Rattle.host_device.proofs.Laws.{writes-noted}
use Rattle.host_device.proofs.device.HostDeviceDevice.write_at.Goals as goal

pub returns-clause-writes : goal.returns-clause-writes
returns-clause-writes c =
    let at = c.args.at in
    let ws = c.args.bytes.now in
    let all = c.as_slice-all.result.now in
    let noted = journal_of c.args.self.now in
    let whole : all ≡ bytes_of c.args.self.now = c.as_slice-all.ensures in
    let same : at + length ws - at ≡ length ws = omega arith in
    let journal : c.note_write.new.self ≡ noted ++ (Write at (take (at + length ws - at) (drop at all)) ws ∷ []) = c.in-Ok.ensures.noted in
    writes-noted _ _ at ws (journal ∙ (λ k. noted ++ (Write at (take (same k) (drop at (whole k))) ws ∷ [])))
    c.in-Ok-write_at.ensures.written (c.in-Ok-write_at.ensures.writes.torn tt) c.in-Ok-write_at.ensures.within
