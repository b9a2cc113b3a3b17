-- What is put back is what the call leaves.
use Rattle.std.proofs.Common.{◌∙◌, subst}
use Rattle.geos_calls.specs.ChunkCalls.{make_row}
use Rattle.takhvoi.specs.Answers.{ChangesIn, Done, IsTold}
use Rattle.takhvoi.specs.Names.{name_of}
use Rattle.takhvoi.specs.Own.{MayNotChange}
use Rattle.takhvoi.proofs.Calling.{served}
use Rattle.takhvoi.proofs.chunks.make.Goals as goal

pub returns-clause-served : goal.returns-clause-served
returns-clause-served c =
    let name = name_of c.args.block in
    let told = c.make_in-status.new.told in
    served (MayNotChange name) (ChangesIn name (IsTold (make_row name c.args.make) told))
    c.make_in-status.result c.args.handle.now c.put.new.handle c.deref_mut.result.now c.make_in-status.new.system
    c.in-Some.ensures.some.0 (c.deref_mut.ensures.value ∙ c.in-Some.ensures.some.1) c.put.ensures.live c.put.ensures.value
    (subst (λ n. Done (MayNotChange n) (ChangesIn n (IsTold (make_row n c.args.make) told))
    c.make_in-status.result c.deref_mut.result.now c.make_in-status.new.system) c.name_of.ensures c.make_in-status.ensures.done)
