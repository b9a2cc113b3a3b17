use Rattle.block_handles.proofs.Packs.{up-step, up-sum}
use Rattle.block_handles.proofs.pack.pack_up.Goals as goal

pub loop-slot-preserved : goal.loop-slot-preserved
loop-slot-preserved c =
    let store = rw c.size-size.ensures at c.slide.ensures.store in
    rw (c.place-place.ensures, c.size-size.ensures) (up-step c.args.arena.now c.loop-slot.arena c.args.from c.args.until
    c.loop-slot.at c.loop-slot.scan c.in-Some.slot c.loop-slot.invariant c.in-Some.ensures.found c.slide.new.self store c.slide.ensures.laid)

pub returns-clause-packed : goal.returns-clause-packed
returns-clause-packed c = up-sum c.args.arena.now c.loop-slot.arena c.args.from c.args.until c.loop-slot.at
    c.loop-slot.scan c.loop-slot.invariant c.in_default.ensures.none
