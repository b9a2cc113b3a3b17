use Rattle.std.proofs.Common.{◌≡◌, ℕ, ◌+◌, ◌*◌, ◌≤◌, ◌<◌, List, length, get_or, ap, sym, ◌∙◌, subst, arith}
use Rattle.std.proofs.lemmas.List.{drop_all}
use Rattle.geos_terms.proofs.Words.{words-written}
use Rattle.geos_terms.specs.Bytes.{with_words, AreWords}
use Rattle.lmem_block.proofs.words.put_words.Goals as goal

pub returns-clause-words : goal.returns-clause-words
returns-clause-words c =
    let ws = c.args.words.now in
    let past : length ws ≤ c.loop-i.i = omega arith in
    let is : with_words c.args.block.now c.args.at ws ≡ c.loop-i.block = sym c.loop-i.invariant
    ∙ ap (λ r. with_words c.loop-i.block (c.args.at + 2 * c.loop-i.i) r) (drop_all c.loop-i.i ws past) in
    let small : (k : ℕ) → get_or ws k 0 < 65536 = (λ k. omega (arith, c.type_inv.words k)) in
    subst (λ (b : List ℕ). AreWords b c.args.at ws) is (words-written c.args.block.now c.args.at ws c.requires small)
