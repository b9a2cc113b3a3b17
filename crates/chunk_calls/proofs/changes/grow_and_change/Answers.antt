use Rattle.geos_calls.specs.ChunkCalls.{change_edit}
use Rattle.chunk_calls.proofs.Coming.{comes-lacking, comes-held, comes-again, comes-once, lacking-stays}
use Rattle.chunk_calls.proofs.changes.grow_and_change.Goals as goal

pub try_change-requires : goal.try_change-requires
try_change-requires g c =
    let old = c.args.blocks.now in
    let q = c.requires in
    comes-held c.args.vm.now (change_edit c.args.change) old c.args.name q.holds.tied.laid c.args.room c.make_room.new.blocks
    q.tried q.holds.heap.there c.in-Ok.field-0 c.in-Ok.ensures

pub unreachable-requires : goal.unreachable-requires
unreachable-requires g c =
    let old = c.args.blocks.now in
    let q = c.requires in
    comes-once c.args.vm.now (change_edit c.args.change) old c.args.name q.holds.tied.laid c.args.room c.make_room.new.blocks
    q.tried q.holds.heap.there c.in-Ok.field-0 c.in-Ok.ensures
    c.try_change.new.blocks c.in-Err-try_change.field-0 c.in-Err-try_change.ensures.tries

pub returns-in-Err-clause-comes : goal.returns-in-Err-clause-comes
returns-in-Err-clause-comes g c =
    let old = c.args.blocks.now in
    let q = c.requires in
    comes-lacking c.args.vm.now (change_edit c.args.change) old c.args.name q.holds.tied.laid c.args.room
    c.make_room.new.blocks q.tried c.in-Err.refusal c.in-Err.ensures

pub returns-in-Err-clause-refused : goal.returns-in-Err-clause-refused
returns-in-Err-clause-refused g c = lacking-stays c.args.vm.now c.args.blocks.now c.make_room.new.blocks c.args.name
    c.args.room c.in-Err.refusal c.in-Err.ensures

pub returns-clause-comes : goal.returns-clause-comes
returns-clause-comes g c =
    let old = c.args.blocks.now in
    let q = c.requires in
    comes-again c.args.vm.now (change_edit c.args.change) old c.args.name q.holds.tied.laid c.args.room c.make_room.new.blocks
    q.tried q.holds.heap.there c.in-Ok.field-0 c.in-Ok.ensures
    c.try_change.new.blocks tt c.in-Ok-try_change.ensures.tries
