use Rattle.std.proofs.Common.{sym, ◌∙◌, arith}
use Rattle.geos_terms.proofs.Lowest.{lowest-is}
use Rattle.lmem_heap.proofs.table.lowest_entry.Goals as goal

pub returns-then-entry-eq0-clause-value : goal.returns-then-entry-eq0-clause-value
returns-then-entry-eq0-clause-value c = lowest-is c.args.block.now c.loop-i.i c.loop-i.invariant
    (omega (arith, c.entries-n.ensures.value)) (λ l. sym c.entry.ensures ∙ c.if-entry-eq0.true)

pub returns-clause-value : goal.returns-clause-value
returns-clause-value c = lowest-is c.args.block.now c.entries-n.result (λ k l. c.loop-i.invariant k (omega arith))
    (omega (arith, c.entries-n.ensures.value)) (λ l. absurd (omega (arith, c.entries-n.ensures.value)))
