use Rattle.std.proofs.Common.{◌∙◌, sym}
use Rattle.geos_terms.proofs.Entries.{chunk-entry, chunk-none}
use Rattle.lmem_block.proofs.look.find.Goals as goal

pub returns-then-entry-eq0-clause-found : goal.returns-then-entry-eq0-clause-found
returns-then-entry-eq0-clause-found c =
    let some = c.in_ok-i.ensures.some in
    chunk-entry c.args.block.now c.args.chunk c.in_ok-i.i some.0 some.1 ∙ chunk-none c.args.block.now _ (sym c.entry.ensures ∙ c.if-entry-eq0.true)
