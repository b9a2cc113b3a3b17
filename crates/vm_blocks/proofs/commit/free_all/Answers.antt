use Rattle.std.proofs.Common.{arith}
use Rattle.block_handles.specs.Names.{IsHandle}
use Rattle.vm_blocks.proofs.Freed.{drops-more, free-drops, still-free}
use Rattle.vm_blocks.proofs.commit.free_all.Goals as goal

pub loop-h-preserved : goal.loop-h-preserved
loop-h-preserved c =
    let b = c.loop-h.blocks in
    let h = c.loop-h.h in
    let e = c.free.ensures in
    let q : IsHandle h = (omega (arith, c.loop-h.auto.h), omega (arith, c.loop-h-test.true)) in
    drops-more c.args.blocks.now b c.free.new.self h q c.loop-h.invariant
    (free-drops b c.free.new.self h c.vm.result c.free.result c.vm.ensures e.there e.ok e.bad_handle e.locked e.err
    (still-free c.args.blocks.now b h q c.requires c.loop-h.invariant))
