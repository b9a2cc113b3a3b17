use Rattle.std.proofs.Common.{◌≡◌, ◌*◌, ◌/◌, ◌%◌, ◌<◌, bit_or, ap, ◌∙◌, arith}
use Rattle.std.proofs.lemmas.Nat.{or_comm, or_shifted}
use Rattle.lmem_block.proofs.look.turned.Goals as goal

pub returns : goal.returns
returns c =
    let w = c.args.word in
    let low : w * 32768 % 65536 ≡ w % 2 * 32768 = omega arith in
    let small : w / 2 < 32768 = omega (arith, c.ranges.word) in
    c.rotate_right.ensures ∙ ap (bit_or (w / 2)) low ∙ or_comm (w / 2) (w % 2 * 32768) ∙ or_shifted (w % 2) 15 (w / 2) small ∙ omega arith
