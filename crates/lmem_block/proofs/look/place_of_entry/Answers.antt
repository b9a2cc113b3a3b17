use Rattle.std.proofs.Common.{◌-◌, ◌∙◌, ap, arith, rules}
use Rattle.geos_terms.specs.Bytes.{word}
use Rattle.geos_terms.proofs.Entries.{told-within}
use Rattle.geos_terms.proofs.Places.{entry-length}
use Rattle.lmem_block.proofs.look.place_of_entry.Goals as goal

pub overflow_sub-at : goal.overflow_sub-at
overflow_sub-at c = let t = told-within c.args.block.now c.args.index c.requires.heap c.requires.known
    (c.requires.used, λ e. c.if-at.false (c.entry-at.ensures ∙ e)) in omega (arith, t.0, c.entry-at.ensures)

pub get16-requires : goal.get16-requires
get16-requires c = let t = told-within c.args.block.now c.args.index c.requires.heap c.requires.known
    (c.requires.used, λ e. c.if-at.false (c.entry-at.ensures ∙ e)) in omega (arith, t.0, t.2, c.entry-at.ensures)

pub overflow_sub-result : goal.overflow_sub-result
overflow_sub-result c =
    let t = told-within c.args.block.now c.args.index c.requires.heap c.requires.known
    (c.requires.used, λ e. c.if-at.false (c.entry-at.ensures ∙ e)) in
    let size = c.get16.ensures ∙ ap (λ x. word c.args.block.now (x - 2)) c.entry-at.ensures in omega (arith, t.1, size)

pub returns-clause-within : goal.returns-clause-within
returns-clause-within c =
    let t = told-within c.args.block.now c.args.index c.requires.heap c.requires.known
    (c.requires.used, λ e. c.if-at.false (c.entry-at.ensures ∙ e)) in
    let size = c.get16.ensures ∙ ap (λ x. word c.args.block.now (x - 2)) c.entry-at.ensures in omega (arith, t.2, size, c.entry-at.ensures)

pub returns-then-at-clause-len : goal.returns-then-at-clause-len
returns-then-at-clause-len c = entry-length c.args.block.now c.args.index (record { at = 0; len = 0 }) c.requires.known (search rules) (omega arith)

pub returns-clause-len : goal.returns-clause-len
returns-clause-len c = entry-length c.args.block.now c.args.index (record { at = c.entry-at.result; len = c.get16.result - 2 })
    c.requires.known (search rules) (returns-clause-within c)
