use Rattle.std.proofs.Common.{◌≡◌, ◌-◌, ◌≤◌, ◌<◌, ℕ, ap, subst, sym, arith}
use Rattle.geos_terms.specs.declared.name.Name.{Name}
use Rattle.block_handles.specs.Change.{with_lock_less}
use Rattle.block_handles.specs.Layout.{IsLaidOut}
use Rattle.block_handles.specs.Names.{of_file, slot_of}
use Rattle.block_handles.specs.Store.{IsThere, Store, locks_of}
use Rattle.block_handles.specs.Used.{IsLockSum}
use Rattle.block_handles.proofs.Layouts.{there_of_locks}
use Rattle.block_handles.proofs.LockSums.{lock-sum-less}
use Rattle.block_handles.proofs.Readies.{kept-locks}
use Rattle.block_handles.proofs.Laws.{handle_of_there}
use Rattle.block_handles.proofs.Blocks.unlock.Goals as goal

-- a lock less, where a block is locked in the store that callers see
module _ (S seen : Store) (view : S ≡ seen) (laid : IsLaidOut S) (name : Name) (slot : ℕ) (at : slot ≡ slot_of name)
    (locked : 0 < locks_of seen (slot_of name)) where
  some : 0 < locks_of S slot
  some = omega (arith, locked, ap (λ s. locks_of s slot) view, ap (locks_of seen) at)

  there : IsThere S slot
  there = there_of_locks S slot some

  less : (new : Store) (part held : ℕ) → new ≡ with_lock_less S slot → part ≡ of_file name.owner → IsLockSum S held
      → (part ≤ held) × IsLockSum new (held - part)
  less new part held store is_part is =
      let handle = handle_of_there S seen name view laid (there_of_locks seen (slot_of name) locked) in
      let done = lock-sum-less S new name slot held laid handle at some store is in
      subst (λ n. (n ≤ held) × IsLockSum new (held - n)) (sym is_part) done

pub overflow_sub-self : goal.overflow_sub-self
overflow_sub-self c =
    (less c.self.inside.arena c.args.self.now c.self.view_is c.self.invariant.ready.laid c.args.name c.slot_in_use.result
    c.slot_in_use.ensures c.requires c.unlock.new.self c.of_file.result c.self.inside.vm_locks c.unlock.ensures
    c.of_file.ensures c.self.invariant.locked).0

pub invariant_of-self : goal.invariant_of-self
invariant_of-self c =
    let S = c.self.inside.arena in
    let slot = c.slot_in_use.result in
    let done = less S c.args.self.now c.self.view_is c.self.invariant.ready.laid c.args.name slot c.slot_in_use.ensures c.requires
    c.unlock.new.self c.of_file.result c.self.inside.vm_locks c.unlock.ensures c.of_file.ensures c.self.invariant.locked in
    kept-locks S c.unlock.new.self c.self.inside.gap c.self.inside.used.words.items slot (locks_of S slot - 1)
    (there S c.args.self.now c.self.view_is c.self.invariant.ready.laid c.args.name slot c.slot_in_use.ensures c.requires)
    c.unlock.ensures done.1 c.self.invariant

pub slot_in_use-requires : goal.slot_in_use-requires
slot_in_use-requires c = handle_of_there _ _ c.args.name c.self.view_is c.self.invariant.ready.laid (there_of_locks c.args.self.now _ c.requires)

pub unlock-requires : goal.unlock-requires
unlock-requires c = some c.self.inside.arena c.args.self.now c.self.view_is c.self.invariant.ready.laid c.args.name c.slot_in_use.result
    c.slot_in_use.ensures c.requires
