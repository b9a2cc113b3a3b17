use Rattle.std.proofs.Common.{ap, refl, sym, ◌∙◌}
use Rattle.std.specs.Option.{option_map}
use Rattle.geos_terms.specs.Block.{bytes_at}
use Rattle.geos_terms.proofs.Entries.{chunk-entry, chunk-none, chunk-nothing}
use Rattle.lmem_block.proofs.look.locate.Goals as goal

pub returns-then-entry-eq0-clause-bytes : goal.returns-then-entry-eq0-clause-bytes
returns-then-entry-eq0-clause-bytes c =
    let some = c.in_ok-i.ensures.some in
    chunk-entry c.args.block.now c.args.chunk c.in_ok-i.i some.0 some.1
    ∙ chunk-none c.args.block.now _ (sym c.entry-then-has_no_byte.ensures ∙ c.if-entry-eq0.true)

pub returns-else-entry-eq0-clause-bytes : goal.returns-else-entry-eq0-clause-bytes
returns-else-entry-eq0-clause-bytes c =
    let some = c.in_ok-i.ensures.some in
    let same = c.entry-then-has_no_byte.ensures ∙ sym c.entry.ensures in
    chunk-entry c.args.block.now c.args.chunk c.in_ok-i.i some.0 some.1
    ∙ chunk-nothing c.args.block.now _ (sym c.entry.ensures ∙ c.if-has_no_byte.ensures.only refl (λ e. c.if-entry-eq0.false (same ∙ e)))

pub returns-clause-bytes : goal.returns-clause-bytes
returns-clause-bytes c =
    let some = c.in_ok-i.ensures.some in
    chunk-entry c.args.block.now c.args.chunk c.in_ok-i.i some.0 some.1
    ∙ ap (option_map (bytes_at c.args.block.now)) c.place_of_entry.ensures.place
