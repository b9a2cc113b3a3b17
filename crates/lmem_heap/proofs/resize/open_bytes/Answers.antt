use Rattle.std.proofs.Common.{refl, arith}
use Rattle.lmem_heap.proofs.Shifts.{opened}
use Rattle.lmem_heap.proofs.resize.open_bytes.Goals as goal

pub returns : goal.returns
returns c =
    let p = c.place_of_entry-begin.ensures in
    let d = opened c.args.block.now c.move_bytes.new.block c.clear.new.block c.args.i _ c.args.at c.args.n _ _
    c.requires.heap c.requires.known p.place p.within (omega (arith, p.len, c.requires.within)) refl refl c.move_bytes.ensures c.clear.ensures in
    record { heap = d.heap; handle = d.handle; chunks = d.chunks }
