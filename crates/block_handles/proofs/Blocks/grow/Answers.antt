use Rattle.std.proofs.Common.{◌≡◌, ℕ, ◌≤◌, slice_index_or, None, sym, subst, arith}
use Rattle.block_handles.specs.Calls.{Grows}
use Rattle.block_handles.specs.Names.{slot_of}
use Rattle.block_handles.specs.Store.{IsBlock, IsThere, Store, size_of}
use Rattle.block_handles.specs.Stretch.{HasNoRoom}
use Rattle.block_handles.specs.Used.{IsKept}
use Rattle.block_handles.proofs.Counting.{lacking, no-stretch}
use Rattle.block_handles.proofs.Packs.{size_along}
use Rattle.block_handles.proofs.Readies.{edge-gap, grows, kept-grown_block, reached-gap, room-free}
use Rattle.block_handles.proofs.Blocks.grow.Goals as goal

-- the block is there, and no longer than it is to be, in the store as its fields have it
module _ (store seen : Store) (slot named : ℕ) (view : store ≡ seen) (same : slot ≡ named) where
  there : IsThere seen named → IsThere store slot
  there is = subst (λ s. IsThere s slot) (sym view) (subst (IsThere seen) (sym same) is)

  less : (size : ℕ) → size_of seen named ≤ size → size_of store slot ≤ size
  less size is = subst (λ s. size_of s slot ≤ size) (sym view) (subst (λ k. size_of seen k ≤ size) (sym same) is)

pub place-place-requires : goal.place-place-requires
place-place-requires c = there _ _ _ _ c.self.view_is c.slot_of-slot.ensures c.requires.there

pub end-end-requires : goal.end-end-requires
end-end-requires c = there _ _ _ _ c.self.view_is c.slot_of-slot.ensures c.requires.there

pub room_for-requires-clause-gap : goal.room_for-requires-clause-gap
room_for-requires-clause-gap c =
    reached-gap c.self.inside.arena c.slot_of-slot.result c.self.invariant.ready.laid
    (there _ _ _ _ c.self.view_is c.slot_of-slot.ensures c.requires.there) c.self.inside.gap c.reaching-gap.result _ _
    c.place-place.ensures c.end-end.ensures c.self.invariant.ready.room c.reaching-gap.ensures

pub room_for-requires-clause-edge : goal.room_for-requires-clause-edge
room_for-requires-clause-edge c = edge-gap c.self.inside.arena c.self.inside.gap c.self.invariant.ready.room

pub room_for-requires-clause-size : goal.room_for-requires-clause-size
room_for-requires-clause-size c =
    let is = there _ _ _ _ c.self.view_is c.slot_of-slot.ensures c.requires.there in
    omega (
      arith,
      less _ _ _ _ c.self.view_is c.slot_of-slot.ensures c.args.size c.requires.size.0,
      (c.self.invariant.ready.laid.sized c.slot_of-slot.result is).0,
    )

pub invariant_of-self : goal.invariant_of-self
invariant_of-self c = (let i = c.self.inside in subst (λ s. IsKept s i.gap i.used.words.items i.free i.vm_locks)
    (sym c.in_err-gap.ensures.err.1) c.self.invariant)

pub returns-in_err-gap-clause-no_room : goal.returns-in_err-gap-clause-no_room
returns-in_err-gap-clause-no_room c = λ is.
    subst (λ s. HasNoRoom s (slot_of c.args.name) c.args.size) (sym c.in_err-gap.ensures.err.1)
    (subst (λ k. HasNoRoom c.self.inside.arena k c.args.size) c.slot_of-slot.ensures
    (no-stretch c.self.inside.arena c.self.inside.free c.slot_of-slot.result c.args.size c.self.invariant.count c.in_err-gap.ensures.full))

pub returns-then-self-more-clause-no_room : goal.returns-then-self-more-clause-no_room
returns-then-self-more-clause-no_room c = λ is.
    let S = c.self.inside.arena in
    let slot = c.slot_of-slot.result in
    let more = less _ _ _ _ c.self.view_is c.slot_of-slot.ensures c.args.size c.requires.size.0 in
    let no_room : HasNoRoom S slot c.args.size = lacking S c.self.invariant.ready.laid c.self.inside.free _ c.self.invariant.count
    c.if-self-more.true slot c.args.size (omega (arith, more, c.place-place.ensures, c.end-end.ensures)) in
    subst (λ s. HasNoRoom s (slot_of c.args.name) c.args.size) c.self.view_is
    (subst (λ k. HasNoRoom S k c.args.size) c.slot_of-slot.ensures no_room)

pub relocate-requires-clause-there : goal.relocate-requires-clause-there
relocate-requires-clause-there c =
    subst (λ bs. IsBlock (slice_index_or bs c.slot_of-slot.result None)) (sym c.in_ok-gap.ensures.ok.blocks)
    (there _ _ _ _ c.self.view_is c.slot_of-slot.ensures c.requires.there)

pub relocate-requires-clause-legal : goal.relocate-requires-clause-legal
relocate-requires-clause-legal c =
    let along = size_along c.self.inside.arena c.room_for.new.arena c.in_ok-gap.ensures.ok.blocks c.slot_of-slot.result in
    (omega (arith, along, less _ _ _ _ c.self.view_is c.slot_of-slot.ensures c.args.size c.requires.size.0), omega arith, c.requires.size.1)

pub relocate-requires-clause-free : goal.relocate-requires-clause-free
relocate-requires-clause-free c = room-free _ _ _ _ _ c.in_ok-gap.ensures.ok

pub invariant_of-self-2 : goal.invariant_of-self-2
invariant_of-self-2 c =
    kept-grown_block c.self.inside.arena c.room_for.new.arena c.relocate.new.self c.slot_of-slot.result c.args.size
    c.self.inside.free _ c.in_ok-gap.gap c.in_ok-gap.ensures.ok
    (there _ _ _ _ c.self.view_is c.slot_of-slot.ensures c.requires.there)
    (less _ _ _ _ c.self.view_is c.slot_of-slot.ensures c.args.size c.requires.size.0) (omega (arith, c.place-place.ensures, c.end-end.ensures))
    c.if-self-more.false c.self.invariant.ready.laid c.self.invariant.count c.relocate.ensures.store c.relocate.ensures.laid
    c.self.inside.used.words.items c.self.inside.vm_locks c.self.invariant.used c.self.invariant.locked

pub returns-clause-ok : goal.returns-clause-ok
returns-clause-ok c =
    let new = c.relocate.new.self in
    subst (λ s. Grows s new (slot_of c.args.name) c.args.size) c.self.view_is
    (subst (λ k. Grows c.self.inside.arena new k c.args.size) c.slot_of-slot.ensures
    (grows c.self.inside.arena c.room_for.new.arena new c.slot_of-slot.result c.args.size c.in_ok-gap.gap
    c.in_ok-gap.ensures.ok c.relocate.ensures.laid c.relocate.ensures.store))
