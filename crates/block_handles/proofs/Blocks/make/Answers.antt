use Rattle.std.proofs.Common.{◌≡◌, ◌<◌, ℕ, slice_index_or, None, sym, subst, arith}
use Rattle.block_handles.specs.Calls.{Makes}
use Rattle.block_handles.specs.Names.{slot_of}
use Rattle.block_handles.specs.Store.{IsBlock, IsThere, Store, size_of}
use Rattle.block_handles.specs.Stretch.{HasNoRoom}
use Rattle.block_handles.specs.Used.{IsKept}
use Rattle.block_handles.proofs.Counting.{lacking, no-stretch}
use Rattle.block_handles.proofs.Laws.{slot_of-small}
use Rattle.block_handles.proofs.Layouts.{size_of_none}
use Rattle.block_handles.proofs.Readies.{edge-gap, kept-made, made-taken, makes, room-free}
use Rattle.block_handles.proofs.Blocks.make.Goals as goal

-- no block is there, in the store as its fields have it
absent : (store seen : Store) (slot named : ℕ) → store ≡ seen → slot ≡ named → (IsThere seen named → ⊥) → IsThere store slot → ⊥
absent store seen slot named view same not is = not (subst (IsThere seen) same (subst (λ s. IsThere s slot) view is))

pub room_for-requires-clause-gap : goal.room_for-requires-clause-gap
room_for-requires-clause-gap c = (let room = c.self.invariant.ready.room in
    record { ordered = room.ordered; inside = room.inside; free = λ j ne. room.free j })

pub room_for-requires-clause-edge : goal.room_for-requires-clause-edge
room_for-requires-clause-edge c = edge-gap c.self.inside.arena c.self.inside.gap c.self.invariant.ready.room

pub invariant_of-self : goal.invariant_of-self
invariant_of-self c = (let i = c.self.inside in subst (λ s. IsKept s i.gap i.used.words.items i.free i.vm_locks)
    (sym c.in_err-gap.ensures.err.1) c.self.invariant)

pub returns-in_err-gap-clause-no_room : goal.returns-in_err-gap-clause-no_room
returns-in_err-gap-clause-no_room c = λ is.
    subst (λ s. HasNoRoom s (slot_of c.args.name) c.args.size) (sym c.in_err-gap.ensures.err.1)
    (subst (λ k. HasNoRoom c.self.inside.arena k c.args.size) c.slot_of-slot.ensures
    (no-stretch c.self.inside.arena c.self.inside.free c.slot_of-slot.result c.args.size c.self.invariant.count c.in_err-gap.ensures.full))

pub returns-then-self-size-clause-no_room : goal.returns-then-self-size-clause-no_room
returns-then-self-size-clause-no_room c = λ is.
    let none = size_of_none c.args.self.now (slot_of c.args.name) c.requires.name.1 in
    subst (λ s. size_of s (slot_of c.args.name) ≡ 0 → HasNoRoom s (slot_of c.args.name) c.args.size) c.self.view_is
    (λ none. lacking c.self.inside.arena c.self.invariant.ready.laid c.self.inside.free c.args.size c.self.invariant.count
    c.if-self-size.true (slot_of c.args.name) c.args.size (omega (arith, none))) none

pub create-requires-clause-slot : goal.create-requires-clause-slot
create-requires-clause-slot c =
    let slot = c.slot_of-slot.result in
    let small : slot < 2048 = rw c.slot_of-slot.ensures (slot_of-small c.args.name c.requires.name.0) in (
      small,
      λ is. absent _ _ _ _ c.self.view_is c.slot_of-slot.ensures c.requires.name.1
          (subst (λ bs. IsBlock (slice_index_or bs slot None)) c.in_ok-gap.ensures.ok.blocks is),
    )

pub create-requires-clause-legal : goal.create-requires-clause-legal
create-requires-clause-legal c = (c.requires.size.0, omega arith, c.requires.size.1)

pub create-requires-clause-free : goal.create-requires-clause-free
create-requires-clause-free c = room-free _ _ _ _ _ c.in_ok-gap.ensures.ok

pub invariant_of-self-2 : goal.invariant_of-self-2
invariant_of-self-2 c =
    let S = c.self.inside.arena in
    let slot = c.slot_of-slot.result in
    let free = c.self.inside.free in
    let gap = c.in_ok-gap.gap in
    let made = c.in_ok-gap.ensures.ok in
    let small : slot < 2048 = rw c.slot_of-slot.ensures (slot_of-small c.args.name c.requires.name.0) in
    let taken = made-taken S c.room_for.new.arena c.create.new.self slot c.args.size free gap made small
    (absent _ _ _ _ c.self.view_is c.slot_of-slot.ensures c.requires.name.1) c.self.invariant.count
    c.if-self-size.false c.create.ensures.store c.create.ensures.laid in
    kept-made S c.room_for.new.arena c.create.new.self slot c.args.size free c.self.inside.vm_locks gap
    c.self.inside.used.words.items c.insert.new.self.words.items made small
    (absent _ _ _ _ c.self.view_is c.slot_of-slot.ensures c.requires.name.1) c.self.invariant.used c.self.invariant.locked
    taken c.create.ensures.store c.create.ensures.laid c.insert.ensures

pub returns-clause-ok : goal.returns-clause-ok
returns-clause-ok c =
    let new = c.create.new.self in
    subst (λ s. Makes s new (slot_of c.args.name) c.args.size) c.self.view_is
    (subst (λ k. Makes c.self.inside.arena new k c.args.size) c.slot_of-slot.ensures
    (makes c.self.inside.arena c.room_for.new.arena new c.slot_of-slot.result c.args.size c.in_ok-gap.gap
    c.in_ok-gap.ensures.ok c.create.ensures.laid c.create.ensures.store))
