use Rattle.std.proofs.Common.{◌≡◌, ℕ, List, ◌+◌, ◌-◌, ◌<◌, ◌/◌, ◌%◌, [], ◌∷◌, length, take, drop, ap, ◌∙◌, arith, length-take}
use Rattle.std.proofs.lemmas.List.{drop_all}
use Rattle.geos_terms.proofs.Parts.{put_over}
use Rattle.geos_terms.specs.Bytes.{word_bytes, with_word}
use Rattle.lmem_raw.specs.Bytes.{with_part}
use Rattle.lmem_block.proofs.words.put16.Goals as goal

pub returns : goal.returns
unfolding with_word
returns c =
    let bs = c.args.block.now in
    let at = c.args.at in
    let w = c.args.word in
    let two = take (at + 2 - at) (drop at bs) in
    let rest : drop 2 two ≡ [] = drop_all 2 two (omega (arith, length-take (at + 2 - at) (drop at bs))) in
    let high : w / 256 % 256 ≡ w / 256 = (let small : w < 65536 = omega arith in omega arith) in
    let is : c.write_u16.new.buf ≡ word_bytes w = c.write_u16.ensures ∙ ap (λ (zs : List ℕ). w % 256 ∷ w / 256 % 256 ∷ zs) rest
    ∙ ap (λ (h : ℕ). w % 256 ∷ h ∷ []) high in
    put_over bs at (at + 2 - at) 2 c.write_u16.new.buf c.requires (omega arith) (ap length is) ∙ ap (λ zs. with_part bs at zs) is
