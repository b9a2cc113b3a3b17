use Rattle.std.proofs.Common.{◌≡◌, ◌+◌, length, ap, ◌∙◌, arith}
use Rattle.std.proofs.lemmas.List.{take_all}
use Rattle.std.specs.List.{copy_within}
use Rattle.lmem_raw.specs.Bytes.{part, with_part}
use Rattle.lmem_raw.proofs.Parts.{with_whole, length-with_part, copied}
use Rattle.lmem_raw.proofs.Region.move_bytes.Goals as goal

pub returns : goal.returns
returns c =
    let bs = c.args.self.now in
    let from = c.args.from in
    let to = c.args.to in
    let n = c.args.count in
    let whole : c.slice_mut.result.now ≡ bs = c.slice_mut.ensures.value ∙ take_all c.len-len.result bs (omega arith) in
    let moved : c.copy_within.new.self ≡ with_part bs to (part bs from n) = c.copy_within.ensures.after
    ∙ ap (λ xs. copy_within xs from (from + n) to) whole ∙ copied bs from n to c.requires.0 c.requires.1 in
    let long : length c.copy_within.new.self ≡ length bs = ap length moved ∙ length-with_part bs to (part bs from n) in
    ap (λ xs. with_part bs 0 xs) (take_all c.len-len.result c.copy_within.new.self (omega arith)) ∙ with_whole bs c.copy_within.new.self long ∙ moved
