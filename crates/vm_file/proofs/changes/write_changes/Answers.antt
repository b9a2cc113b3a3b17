use Rattle.std.proofs.Common.{◌≡◌, ◌+◌, ◌-◌, ◌∙◌, length, take, drop, ap, subst, arith, length-drop, length-take}
use Rattle.std.proofs.lemmas.List.{take_all}
use Rattle.std.proofs.lemmas.Result.{on_ok_weaker}
use Rattle.lmem_raw.specs.Bytes.{part, with_part}
use Rattle.vm_file.proofs.Moments.{reads_then}
use Rattle.vm_file.proofs.Pieces.{changes_written, reads_write}
use Rattle.vm_file.proofs.changes.write_changes.Goals as goal

pub returns-clause-written : goal.returns-clause-written
returns-clause-written g c = λ h.
    let d = g.D.Device in
    let bs = c.args.bytes.now in
    let from = c.in-Ok.from in
    let n = c.in-Ok-end_of_change.n in
    let rest = take (length bs - from) (drop from bs) in
    let one = c.in-Ok.ensures.read.only in
    let two = c.in-Ok-end_of_change.ensures.read.only in
    let is : rest ≡ drop from bs = take_all (length bs - from) (drop from bs) (omega (arith, length-drop from bs)) in
    let end = subst (λ x. part x (c.args.at + from + n) (length rest - n) ≡ drop n rest) one.same
    (c.in-Ok-end_of_change.ensures.stands (one.stays h)) in
    on_ok_weaker c.write_durably.result
    (λ e. e ∙ ap (λ x. with_part x (c.args.at + from) (take n rest)) (two.same ∙ one.same)
    ∙ changes_written (d.medium.image c.args.device.now) bs rest c.args.at from n is c.in-Ok.ensures.bound
    c.in-Ok-end_of_change.ensures.bound (c.in-Ok.ensures.stands h) end)
    (c.write_durably.ensures.written (two.stays (one.stays h)))

pub returns-clause-writes : goal.returns-clause-writes
returns-clause-writes g c =
    let d = g.D.Device in
    let bs = c.args.bytes.now in
    let from = c.in-Ok.from in
    let n = c.in-Ok-end_of_change.n in
    let rest = take (length bs - from) (drop from bs) in
    let reads = reads_then d.medium c.args.device.now c.front_that_stands.new.device c.end_of_change.new.device
    c.in-Ok.ensures.read.only c.in-Ok-end_of_change.ensures.read.only in
    reads_write d.medium c.args.at (length bs) (c.args.at + from) (length (take n rest)) c.args.device.now c.end_of_change.new.device
    c.write_durably.new.device (omega arith)
    (omega (arith, length-take n rest, length-take (length bs - from) (drop from bs), length-drop from bs, c.in-Ok.ensures.bound))
    reads c.write_durably.ensures.writes
