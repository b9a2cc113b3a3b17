use Rattle.std.proofs.Common.{refl}
use Rattle.geos_terms.specs.Edits.{alloc}
use Rattle.geos_terms.specs.ArrayEdits.{create_array}
use Rattle.chunk_calls.specs.declared.obstacle.Obstacle.TheVariants.{Room}
use Rattle.chunk_calls.proofs.Lending.{lent-made, mapped}
use Rattle.chunk_calls.proofs.makes.try_make.Goals as goal

pub returns-in-Lalloc : goal.returns-in-Lalloc
returns-in-Lalloc c =
    let e = c.alloc.ensures in
    rw (mapped Room c.alloc.result c.map_err.result c.map_err.ensures.cases, c.in-Lalloc.is)
    (lent-made (alloc c.in-Lalloc.n) c.args.blocks.now c.args.name c.requires.there c.alloc.new.block c.bytes_mut.result.now
    c.bytes_mut.ensures.value c.alloc.auto.block e.heap e.handle refl
    c.alloc.result e.ok e.refused e.err)

pub returns-in-Canew : goal.returns-in-Canew
returns-in-Canew c =
    let e = c.create.ensures in
    rw (mapped Room c.create.result c.map_err-in-Canew.result c.map_err-in-Canew.ensures.cases, c.in-Canew.is)
    (lent-made (create_array c.in-Canew.element_size) c.args.blocks.now c.args.name c.requires.there c.create.new.block
    c.bytes_mut-in-Canew.result.now c.bytes_mut-in-Canew.ensures.value c.create.auto.block e.heap e.handle refl
    c.create.result e.ok e.refused e.err)
