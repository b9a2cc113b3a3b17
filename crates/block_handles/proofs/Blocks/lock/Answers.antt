use Rattle.std.proofs.Common.{◌+◌, refl, subst, sym, arith}
use Rattle.block_handles.specs.Store.{IsThere, locks_of}
use Rattle.block_handles.specs.Used.{IsLockSum}
use Rattle.block_handles.proofs.LockSums.{lock-sum-more, lock-sum-small, of_file-small}
use Rattle.block_handles.proofs.Readies.{kept-locks}
use Rattle.block_handles.proofs.Laws.{handle_of_there}
use Rattle.block_handles.proofs.Blocks.lock.Goals as goal

pub overflow_add-self : goal.overflow_add-self
overflow_add-self c = omega (
  arith,
  lock-sum-small c.self.inside.arena c.self.inside.vm_locks c.self.invariant.ready.laid
      c.self.invariant.locked,
  c.of_file.ensures,
  of_file-small c.args.name.owner,
)

pub invariant_of-self : goal.invariant_of-self
invariant_of-self c =
    let S = c.self.inside.arena in
    let slot = c.slot_of-slot.result in
    let new = c.lock.new.self in
    let laid = c.self.invariant.ready.laid in
    let took = c.lock.ensures.taken c.if-lock.true in
    let there : IsThere S slot = took.0 in
    let handle = handle_of_there S S c.args.name refl laid (subst (IsThere S) c.slot_of-slot.ensures there) in
    let locked = lock-sum-more S new c.args.name slot c.self.inside.vm_locks laid handle c.slot_of-slot.ensures
    (λ most. omega (arith, took.1, most)) took.2 c.self.invariant.locked in
    kept-locks S new c.self.inside.gap c.self.inside.used.words.items slot (locks_of S slot + 1) there took.2
    (subst (λ n. IsLockSum new (c.self.inside.vm_locks + n)) (sym c.of_file.ensures) locked) c.self.invariant
