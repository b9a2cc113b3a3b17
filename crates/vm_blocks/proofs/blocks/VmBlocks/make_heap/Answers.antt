use Rattle.std.proofs.Common.{subst}
use Rattle.geos_terms.specs.declared.name.Name.{Name}
use Rattle.block_handles.specs.Names.{slot_of}
use Rattle.vm_blocks.specs.Room.{DiscardsForRoom, own_handle}
use Rattle.vm_blocks.proofs.Brings.{fills-others, made-room}
use Rattle.vm_blocks.proofs.Wanting.{discards-remain, made-remain, remain-more}
use Rattle.vm_blocks.proofs.News.{begun-keeps, begun-new}
use Rattle.vm_blocks.proofs.blocks.VmBlocks.make_heap.Goals as goal

pub returns-clause-ok : goal.returns-clause-ok
returns-clause-ok g c =
    let now = c.args.self.now in
    let old = c.args.blocks.now in
    let mid = c.make_room.new.blocks in
    let h = c.args.h in
    begun-new now old mid c.begin.new.blocks h c.requires.handle (made-room now old mid c.vm.result h c.vm.ensures c.in-Ok.ensures.ok) c.begin.ensures

pub returns-clause-keeps : goal.returns-clause-keeps
returns-clause-keeps g c =
    let now = c.args.self.now in
    let old = c.args.blocks.now in
    let mid = c.make_room.new.blocks in
    let h = c.args.h in
    begun-keeps now old mid c.begin.new.blocks h c.requires.handle (made-room now old mid c.vm.result h c.vm.ensures c.in-Ok.ensures.ok)
    c.begin.ensures

pub returns-in-Err-clause-wanted : goal.returns-in-Err-clause-wanted
returns-in-Err-clause-wanted g c =
    let now = c.args.self.now in
    let old = c.args.blocks.now in
    let mid = c.make_room.new.blocks in
    discards-remain old mid c.args.h 64 now (subst (λ (n : Name). DiscardsForRoom now old mid (own_handle n) (slot_of n) 64)
    c.vm.ensures c.in-Err.ensures.wanted)

pub returns-clause-wanted : goal.returns-clause-wanted
returns-clause-wanted g c =
    let now = c.args.self.now in
    let old = c.args.blocks.now in
    let mid = c.make_room.new.blocks in
    let t = c.begin.new.blocks in
    let h = c.args.h in
    let q = c.requires.handle in
    remain-more old mid h 64 t q (fills-others mid t h c.begin.ensures.fills)
    (made-remain now old mid h 64 q (made-room now old mid c.vm.result h c.vm.ensures c.in-Ok.ensures.ok))
