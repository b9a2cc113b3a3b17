use Rattle.std.proofs.Common.{ℕ, List, ap, ◌∙◌}
use Rattle.lmem_heap.specs.Gaps.{closing_words}
use Rattle.lmem_heap.proofs.Closing.{closing_words-is}
use Rattle.lmem_heap.proofs.compact.Gap.slide.Goals as goal

pub returns-clause-bytes : goal.returns-clause-bytes
returns-clause-bytes c =
    let W : List ℕ → List ℕ = λ x. closing_words x c.args.self in
    closing_words-is c.move_bytes.new.block c.put16.new.block c.put16-2.new.block c.put16-3.new.block c.args.self
    c.put16.ensures c.put16-2.ensures c.put16-3.ensures ∙ ap W c.move_bytes.ensures
