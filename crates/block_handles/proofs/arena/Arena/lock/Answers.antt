use Rattle.std.proofs.Common.{arith}
use Rattle.block_handles.proofs.Steps.{lock_put, sized_seen, small_seen}
use Rattle.block_handles.proofs.arena.Arena.lock.Goals as goal

pub returns-then-slot-ge-SLOTS-clause-refused : goal.returns-then-slot-ge-SLOTS-clause-refused
returns-then-slot-ge-SLOTS-clause-refused c = λ _ there. absurd (omega (
  arith,
  c.if-slot-ge-SLOTS.true,
  small_seen c.self.inside.limits c.self.inside.region c.self.inside.table c.self.inside.index.items c.args.self.now c.self.view_is c.self.invariant
      c.args.slot there,
))

pub lock-requires-clause-sized : goal.lock-requires-clause-sized
lock-requires-clause-sized c = sized_seen c.self.inside.limits c.self.inside.region c.self.inside.table c.self.inside.index.items c.args.self.now
    c.self.view_is c.self.invariant c.args.slot

pub invariant_of-self-2 : goal.invariant_of-self-2
invariant_of-self-2 c = (lock_put c.self.inside.limits c.self.inside.region c.self.inside.table c.self.inside.index.items c.args.self.now
    c.self.view_is c.self.invariant c.args.slot c.lock.new.self c.lock.result c.lock.ensures.taken c.lock.ensures.refused
    c.lock.ensures.same).sound

pub returns-clause-taken : goal.returns-clause-taken
returns-clause-taken c = (lock_put c.self.inside.limits c.self.inside.region c.self.inside.table c.self.inside.index.items c.args.self.now
    c.self.view_is c.self.invariant c.args.slot c.lock.new.self c.lock.result c.lock.ensures.taken c.lock.ensures.refused
    c.lock.ensures.same).taken

pub returns-clause-refused : goal.returns-clause-refused
returns-clause-refused c = (lock_put c.self.inside.limits c.self.inside.region c.self.inside.table c.self.inside.index.items c.args.self.now
    c.self.view_is c.self.invariant c.args.slot c.lock.new.self c.lock.result c.lock.ensures.taken c.lock.ensures.refused
    c.lock.ensures.same).refused

pub returns-clause-same : goal.returns-clause-same
returns-clause-same c = (lock_put c.self.inside.limits c.self.inside.region c.self.inside.table c.self.inside.index.items c.args.self.now
    c.self.view_is c.self.invariant c.args.slot c.lock.new.self c.lock.result c.lock.ensures.taken c.lock.ensures.refused
    c.lock.ensures.same).same
