use Rattle.std.proofs.Common.{◌≡◌, ◌+◌, ◌-◌, drop, get_or, ap, ◌∙◌, arith}
use Rattle.std.proofs.lemmas.List.{get_or-drop, get_or-take}
use Rattle.geos_terms.specs.Bytes.{word}
use Rattle.lmem_block.proofs.words.get16.Goals as goal

pub returns : goal.returns
unfolding word
returns c =
    let bs = c.args.block.now in
    let at = c.args.at in
    let start : at + 0 ≡ at = omega arith in
    let low = get_or-take (at + 2 - at) (drop at bs) 0 0 (omega arith) ∙ get_or-drop at bs 0 0 ∙ ap (λ k. get_or bs k 0) start in
    let high = get_or-take (at + 2 - at) (drop at bs) 1 0 (omega arith) ∙ get_or-drop at bs 1 0 in
    omega (arith, c.read_u16.ensures, low, high)
