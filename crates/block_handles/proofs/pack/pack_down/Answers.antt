use Rattle.block_handles.proofs.Packs.{down-step, down-sum}
use Rattle.block_handles.proofs.pack.pack_down.Goals as goal

pub loop-slot-preserved : goal.loop-slot-preserved
loop-slot-preserved c = rw (c.place-place.ensures, c.size-size.ensures)
    (down-step c.args.arena.now c.loop-slot.arena c.args.from c.args.until c.loop-slot.at c.loop-slot.scan c.in-Some.slot
    c.loop-slot.invariant c.in-Some.ensures.found c.slide.new.self c.slide.ensures.store c.slide.ensures.laid)

pub returns-clause-packed : goal.returns-clause-packed
returns-clause-packed c = down-sum c.args.arena.now c.loop-slot.arena c.args.from c.args.until c.loop-slot.at
    c.loop-slot.scan c.loop-slot.invariant c.in_default.ensures.none
