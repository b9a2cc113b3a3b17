-- What is put back is what the call leaves.
use Rattle.std.proofs.Common.{◌∙◌, length, subst}
use Rattle.geos_calls.specs.ChunkCalls.{refer_row}
use Rattle.takhvoi.specs.Answers.{ChangesIn, Done}
use Rattle.takhvoi.specs.Bytes.{IsWritten}
use Rattle.takhvoi.specs.Names.{name_of}
use Rattle.takhvoi.specs.Own.{MayNotWrite}
use Rattle.takhvoi.proofs.Calling.{served}
use Rattle.takhvoi.proofs.access.write.Goals as goal

pub returns : goal.returns
returns c =
    let name = name_of c.args.place.block in
    let from = c.args.from.now in
    served (MayNotWrite name c.args.place.at (length from)) (ChangesIn name (IsWritten (refer_row name c.args.place.refer) c.args.place.at from))
    c.write_in-status.result c.args.handle.now c.put.new.handle c.deref_mut.result.now c.write_in-status.new.system
    c.in-Some.ensures.some.0 (c.deref_mut.ensures.value ∙ c.in-Some.ensures.some.1) c.put.ensures.live c.put.ensures.value
    (subst (λ n. Done (MayNotWrite n c.args.place.at (length from)) (ChangesIn n (IsWritten (refer_row n c.args.place.refer) c.args.place.at from))
    c.write_in-status.result c.deref_mut.result.now c.write_in-status.new.system) c.name_of.ensures c.write_in-status.ensures)
