use Rattle.std.proofs.Common.{◌≡◌, ◌<◌, List, ap, ◌∙◌, subst, arith, get_or, ℕ}
use Rattle.geos_terms.specs.Bytes.{with_word}
use Rattle.chunk_array.proofs.Headers.{with_header, header-spells}
use Rattle.chunk_array.proofs.make.put_header.Goals as goal

pub returns : goal.returns
returns c =
    let is : c.put16-4.new.block ≡ with_header c.args.bytes.now c.args.element_size = c.put16-4.ensures
    ∙ ap (λ x. with_word x 6 8) (c.put16-3.ensures
    ∙ ap (λ x. with_word x 4 0) (c.put16-2.ensures ∙ ap (λ x. with_word x 2 c.args.element_size) c.put16.ensures)) in
    is ∙ header-spells c.args.bytes.now c.args.element_size c.requires (omega arith)
    (subst (λ (x : List ℕ). (i : ℕ) → get_or x i 0 < 256) is (λ i. let t = c.type_inv.bytes i in omega arith))
