use Rattle.std.proofs.Common.{◌≡◌, ◌≢◌, length, sym, ◌∙◌, arith}
use Rattle.geos_terms.specs.Chunks.{lowest_entry}
use Rattle.geos_terms.specs.Block.{chunks}
use Rattle.geos_terms.proofs.Costs.{cost-most}
use Rattle.geos_terms.proofs.Sums.{count-chunks}
use Rattle.geos_terms.proofs.Lowest.{block-used, used-full, used-room}
use Rattle.lmem_heap.proofs.room.used_with_new.Goals as goal

pub overflow_add-used : goal.overflow_add-used
overflow_add-used c = omega (
  arith,
  block-used c.args.block.now c.requires.heap,
  cost-most c.args.n,
  c.requires.heap.0.most,
  c.used_bytes.ensures,
  c.cost.ensures,
)

pub overflow_add-result : goal.overflow_add-result
overflow_add-result c = omega (
  arith,
  block-used c.args.block.now c.requires.heap,
  cost-most c.args.n,
  c.requires.heap.0.most,
  c.used_bytes.ensures,
  c.cost.ensures,
)

pub returns-then-i-entries-clause-value : goal.returns-then-i-entries-clause-value
returns-then-i-entries-clause-value c =
    let cs = chunks c.args.block.now in
    let full : lowest_entry cs ≡ length cs = sym c.requires.lowest ∙ c.if-i-entries.true ∙ c.entries.ensures.value
    ∙ sym (count-chunks c.args.block.now) in
    omega (arith, (used-full cs c.args.n full).1, c.used_bytes.ensures, c.cost.ensures)

pub returns-then-i-entries-clause-small : goal.returns-then-i-entries-clause-small
returns-then-i-entries-clause-small c = omega (
  arith,
  block-used c.args.block.now c.requires.heap,
  cost-most c.args.n,
  c.requires.heap.0.most,
  c.used_bytes.ensures,
  c.cost.ensures,
)

pub returns-else-i-entries-clause-value : goal.returns-else-i-entries-clause-value
returns-else-i-entries-clause-value c =
    let cs = chunks c.args.block.now in
    let room : lowest_entry cs ≢ length cs =
    (λ e. c.if-i-entries.false (c.requires.lowest ∙ e ∙ count-chunks c.args.block.now ∙ sym c.entries.ensures.value)) in
    omega (arith, used-room cs c.args.n room, c.used_bytes.ensures, c.cost.ensures)

pub returns-else-i-entries-clause-small : goal.returns-else-i-entries-clause-small
returns-else-i-entries-clause-small c = omega (
  arith,
  block-used c.args.block.now c.requires.heap,
  cost-most c.args.n,
  c.requires.heap.0.most,
  c.used_bytes.ensures,
  c.cost.ensures,
)
