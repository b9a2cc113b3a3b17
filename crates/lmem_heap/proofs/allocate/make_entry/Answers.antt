use Rattle.std.proofs.Common.{◌≡◌, length, ap, sym, ◌∙◌, arith}
use Rattle.geos_terms.specs.Chunks.{lowest_entry}
use Rattle.geos_terms.specs.Block.{chunks, entry}
use Rattle.geos_terms.proofs.Sums.{count-chunks}
use Rattle.geos_terms.proofs.Lowest.{block-used, used-full, entry-full, entry-room, lowest-within, lowest-free}
use Rattle.lmem_heap.proofs.allocate.make_entry.Goals as goal

pub add_entries-requires-clause-room : goal.add_entries-requires-clause-room
add_entries-requires-clause-room c =
    let b = c.args.block.now in
    let full : lowest_entry (chunks b) ≡ length (chunks b) = sym c.requires.lowest ∙ c.if-i-entries.true
    ∙ c.entries.ensures.value ∙ sym (count-chunks b) in
    omega (arith, (used-full (chunks b) 0 full).0, block-used b c.requires.heap, c.requires.room)

pub returns-then-i-entries-clause-chunks : goal.returns-then-i-entries-clause-chunks
returns-then-i-entries-clause-chunks c =
    let b = c.args.block.now in
    let full : lowest_entry (chunks b) ≡ length (chunks b) = sym c.requires.lowest ∙ c.if-i-entries.true
    ∙ c.entries.ensures.value ∙ sym (count-chunks b) in
    c.add_entries.ensures.chunks ∙ sym (entry-full (chunks b) full)

pub returns-else-i-entries-clause-chunks : goal.returns-else-i-entries-clause-chunks
returns-else-i-entries-clause-chunks c =
    sym (entry-room (chunks c.args.block.now)
    (λ e. c.if-i-entries.false (c.requires.lowest ∙ e ∙ count-chunks c.args.block.now ∙ sym c.entries.ensures.value)))

pub returns-else-i-entries-clause-known : goal.returns-else-i-entries-clause-known
returns-else-i-entries-clause-known c =
    omega (
      arith,
      lowest-within (chunks c.args.block.now),
      count-chunks c.args.block.now,
      c.requires.lowest,
      c.if-i-entries.false,
      c.entries.ensures.value,
    )

pub returns-else-i-entries-clause-free : goal.returns-else-i-entries-clause-free
returns-else-i-entries-clause-free c =
    let b = c.args.block.now in
    ap (entry b) c.requires.lowest
    ∙ lowest-free b (omega (arith, lowest-within (chunks b), count-chunks b, c.requires.lowest, c.if-i-entries.false, c.entries.ensures.value))
