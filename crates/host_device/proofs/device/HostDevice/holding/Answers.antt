use Rattle.std.proofs.Common.{◌≡◌, ◌∙◌, length, ap, sym}
use Rattle.std.proofs.lemmas.List.{length-replicate}
use Rattle.lmem_raw.proofs.Parts.{with_whole}
use Rattle.host_device.specs.Journal.{bytes_of}
use Rattle.host_device.proofs.device.HostDevice.holding.Goals as goal

pub returns-clause-bytes : goal.returns-clause-bytes
returns-clause-bytes c =
    let zeros = bytes_of c.in_ok-device.device in
    let bs = c.args.bytes.now in
    let long : length bs ≡ length zeros = sym (ap length c.in_ok-device.ensures.bytes ∙ length-replicate (length bs) 0) in
    c.in-Ok.ensures.written ∙ with_whole zeros bs long
