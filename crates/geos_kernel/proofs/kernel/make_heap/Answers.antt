use Rattle.std.proofs.Common.{◌≡◌, length, refl, ap, ◌∙◌, arith}
use Rattle.geos_kernel.proofs.Making.{room-heap, room-length, room-there}
use Rattle.geos_kernel.proofs.kernel.make_heap.Goals as goal

pub bytes_mut-requires : goal.bytes_mut-requires
bytes_mut-requires g c = room-there c.args.vm.now c.args.blocks.now c.make_room.new.blocks c.args.name c.requires.handle c.in-Ok.ensures.ok

pub init-requires : goal.init-requires
init-requires g c =
    let long : length c.bytes_mut.result.now ≡ 64 = ap length c.bytes_mut.ensures.value
    ∙ room-length c.args.vm.now c.args.blocks.now c.make_room.new.blocks c.args.name c.requires.handle c.in-Ok.ensures.ok in
    (omega (arith, long), omega (arith, long), rw long refl)

pub returns-clause-ok : goal.returns-clause-ok
returns-clause-ok g c =
    let long : length c.init.new.block ≡ 64 = c.init.auto.block ∙ ap length c.bytes_mut.ensures.value
    ∙ room-length c.args.vm.now c.args.blocks.now c.make_room.new.blocks c.args.name c.requires.handle c.in-Ok.ensures.ok in
    let e = c.lock.ensures in
    room-heap c.args.vm.now c.args.blocks.now c.make_room.new.blocks c.args.name c.requires.handle c.in-Ok.ensures.ok
    c.lock.new.self c.init.new.block c.lock.result long
    c.init.ensures.heap c.init.ensures.handle c.init.ensures.chunks (e.there, e.ok, e.bad_handle, e.locked, e.err)
