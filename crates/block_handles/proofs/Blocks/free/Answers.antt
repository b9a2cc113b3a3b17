use Rattle.std.proofs.Common.{refl, arith}
use Rattle.block_handles.proofs.Readies.{count-freed, kept-freed}
use Rattle.block_handles.proofs.Blocks.free.Goals as goal

pub invariant_of-self : goal.invariant_of-self
invariant_of-self c =
    kept-freed c.self.inside.arena c.slot_of-slot.result c.self.invariant.ready.laid (c.if-not-has.ensures.0 refl)
    c.remove.new.self c.self.inside.gap c.joined-self-inside.result c.self.inside.used.words.items c.remove-2.new.self.words.items
    c.self.inside.free c.self.inside.vm_locks c.place-place.result c.end-end.result c.remove.ensures.store
    c.remove.ensures.laid c.place-place.ensures c.end-end.ensures (omega (arith, c.if-locks-gt0.false, c.locks.ensures))
    c.joined-self-inside.ensures c.remove-2.ensures c.self.invariant

pub overflow_add-self : goal.overflow_add-self
overflow_add-self c =
    let count = count-freed c.self.inside.arena c.slot_of-slot.result c.self.invariant.ready.laid
    (c.if-not-has.ensures.0 refl) c.remove.new.self c.self.inside.free c.place-place.result c.end-end.result
    c.remove.ensures.store c.place-place.ensures c.end-end.ensures c.self.invariant.count in
    omega (arith, count.counted, count.within, count.short)
