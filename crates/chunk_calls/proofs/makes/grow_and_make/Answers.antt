use Rattle.geos_calls.specs.ChunkCalls.{make_edit}
use Rattle.chunk_calls.proofs.Coming.{comes-lacking, comes-held, comes-again, comes-once, lacking-stays}
use Rattle.chunk_calls.proofs.makes.grow_and_make.Goals as goal

pub try_make-requires : goal.try_make-requires
try_make-requires g c =
    let old = c.args.blocks.now in
    let q = c.requires in
    comes-held c.args.vm.now (make_edit c.args.make) old c.args.name q.holds.tied.laid c.args.room c.make_room.new.blocks
    q.tried q.holds.heap.there c.in-Ok.field-0 c.in-Ok.ensures

pub unreachable-requires : goal.unreachable-requires
unreachable-requires g c =
    let old = c.args.blocks.now in
    let q = c.requires in
    comes-once c.args.vm.now (make_edit c.args.make) old c.args.name q.holds.tied.laid c.args.room c.make_room.new.blocks
    q.tried q.holds.heap.there c.in-Ok.field-0 c.in-Ok.ensures
    c.try_make.new.blocks c.in-Err-try_make.field-0 c.in-Err-try_make.ensures

pub returns-in-Err-clause-comes : goal.returns-in-Err-clause-comes
returns-in-Err-clause-comes g c =
    let old = c.args.blocks.now in
    let q = c.requires in
    comes-lacking c.args.vm.now (make_edit c.args.make) old c.args.name q.holds.tied.laid c.args.room c.make_room.new.blocks
    q.tried c.in-Err.refusal c.in-Err.ensures

pub returns-in-Err-clause-refused : goal.returns-in-Err-clause-refused
returns-in-Err-clause-refused g c = lacking-stays c.args.vm.now c.args.blocks.now c.make_room.new.blocks c.args.name
    c.args.room c.in-Err.refusal c.in-Err.ensures

pub returns-clause-comes : goal.returns-clause-comes
returns-clause-comes g c =
    let old = c.args.blocks.now in
    let q = c.requires in
    comes-again c.args.vm.now (make_edit c.args.make) old c.args.name q.holds.tied.laid c.args.room c.make_room.new.blocks
    q.tried q.holds.heap.there c.in-Ok.field-0 c.in-Ok.ensures
    c.try_make.new.blocks c.in-Ok-try_make.c c.in-Ok-try_make.ensures
