use Rattle.std.proofs.Common.{◌+◌, ◌-◌, ◌++◌, length, take, drop, ap, ◌∙◌, refl, arith}
use Rattle.std.proofs.lemmas.Slice.{put_mid-paste}
use Rattle.std.proofs.lemmas.List.{take_all, append_assoc}
use Rattle.lmem_raw.proofs.Parts.{with_part-split}
use Rattle.vm_file.proofs.memory.write_part.Goals as goal

pub returns : goal.returns
returns c =
    let bs = c.args.bytes.now in
    let at = c.args.at in
    let ws = c.args.from.now in
    put_mid-paste at (at + length ws - at) bs c.copy_from_slice.new.self ws (length ws) (c.copy_from_slice.ensures.after) (omega arith) refl
    ∙ ap (λ xs. take at bs ++ xs ++ drop (at + length ws) bs) (take_all (length ws) ws (omega arith))
    ∙ append_assoc (take at bs) ws (drop (at + length ws) bs)
    ∙ with_part-split bs at (at + length ws) ws refl c.requires
