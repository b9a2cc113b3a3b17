use Rattle.std.proofs.Common.{◌≡◌, ◌+◌, ◌-◌, length, take, drop, replicate, ap, ◌∙◌, arith, length-take, length-drop}
use Rattle.std.proofs.lemmas.List.{length-replicate}
use Rattle.geos_terms.proofs.Parts.{put_over}
use Rattle.lmem_raw.specs.Bytes.{with_part}
use Rattle.lmem_block.proofs.words.clear.Goals as goal

pub returns : goal.returns
returns c =
    let bs = c.args.block.now in
    let at = c.args.at in
    let long : length (take (at + c.args.count - at) (drop at bs)) ≡ c.args.count =
    omega (arith, length-take (at + c.args.count - at) (drop at bs), length-drop at bs) in
    let zeros : c.fill.new.self ≡ replicate c.args.count 0 = c.fill.ensures.after (λ y e. e) ∙ ap (λ m. replicate m 0) long in
    put_over bs at (at + c.args.count - at) c.args.count c.fill.new.self c.requires (omega arith) (ap length zeros ∙ length-replicate c.args.count 0)
    ∙ ap (λ zs. with_part bs at zs) zeros
