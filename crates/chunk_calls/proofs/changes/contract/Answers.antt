use Rattle.std.proofs.Common.{refl, length, sym, ap, ◌∙◌, subst}
use Rattle.geos_terms.specs.Edits.{contract}
use Rattle.geos_terms.specs.Heap.{IsCompact}
use Rattle.block_handles.specs.Names.{slot_of}
use Rattle.block_handles.proofs.Laws.{bytes-same}
use Rattle.chunk_calls.proofs.Lending.{lent-tried}
use Rattle.chunk_calls.proofs.changes.contract.Goals as goal

pub returns-clause-tries : goal.returns-clause-tries
returns-clause-tries c =
    let e = c.contract.ensures in
    lent-tried contract c.args.blocks.now c.args.name c.requires.there c.contract.new.block c.bytes_mut.result.now
    c.bytes_mut.ensures.value c.contract.auto.block e.heap e.handle tt refl refl e.chunks

pub returns-clause-compact : goal.returns-clause-compact
returns-clause-compact c =
    let long = c.contract.auto.block ∙ ap length c.bytes_mut.ensures.value in
    subst IsCompact (sym (bytes-same c.args.blocks.now (slot_of c.args.name) c.contract.new.block c.requires.there long)) c.contract.ensures.compact
