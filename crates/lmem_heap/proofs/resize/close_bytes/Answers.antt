use Rattle.std.proofs.Common.{refl, arith}
use Rattle.lmem_heap.proofs.Shifts.{closed}
use Rattle.lmem_heap.proofs.resize.close_bytes.Goals as goal

pub returns : goal.returns
returns c =
    let p = c.place_of_entry-begin.ensures in
    let d = closed c.args.block.now c.move_bytes.new.block c.args.i _ c.args.at c.args.n _ _ c.requires.heap
    c.requires.known p.place p.within (omega (arith, p.len, c.requires.within)) refl refl c.move_bytes.ensures in
    record { heap = d.heap; handle = d.handle; chunks = d.chunks }
