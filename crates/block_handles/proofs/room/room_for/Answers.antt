use Rattle.std.proofs.Common.{◌≡◌, ◌<◌, ◌≤◌, refl, arith, inl, inr, true, false}
use Rattle.block_handles.specs.Store.{place_of}
use Rattle.block_handles.proofs.Rooms.{packed-room, around-room}
use Rattle.block_handles.proofs.room.room_for.Goals as goal
use Rattle.block_handles.proofs.room.room_for.Goals.{then-has+else-stretch-place, else-stretch-place-via-then-stretch-place+else-place-stretch, else-stretch-place-via-else-stretch-place, else-has}

pub returns-then-place-stretch-clause-ok : goal.returns-then-place-stretch-clause-ok
returns-then-place-stretch-clause-ok c =
    let place = c.place-place.ensures in
    let size = c.size.ensures in
    let enough : c.args.size ≤ c.in_ok-stretch.stretch.room = c.in_ok-stretch.ensures.enough in
    let low : c.in_ok-stretch.stretch.from ≤ place_of c.args.arena.now c.args.slot = omega (arith, place, c.if-stretch-place.true) in
    let high : place_of c.args.arena.now c.args.slot < c.in_ok-stretch.stretch.until = omega (arith, place, c.if-place-stretch.true) in
    around-room c.args.arena.now c.requires.laid c.args.slot c.args.size c.in_ok-stretch.stretch.from
    c.in_ok-stretch.stretch.until c.in_ok-stretch.stretch.room c.in_ok-stretch.ensures.roomy
    enough (c.if-has.ensures.0 refl) low high c.pack_down-at.new.arena c.pack_down-at.result
    (rw place at c.pack_down-at.ensures.moves) (rw place at c.pack_down-at.ensures.free) (rw place at c.pack_down-at.ensures.packed)
    (rw place at c.pack_down-at.ensures.range)
    c.pack_up-end.new.arena c.pack_up-end.result
    (rw (place, size) at c.pack_up-end.ensures.moves) (rw (place, size) at c.pack_up-end.ensures.free)
    (rw (place, size) at c.pack_up-end.ensures.packed) (rw (place, size) at c.pack_up-end.ensures.range)
    (record { at = c.pack_down-at.result; end = c.pack_up-end.result }) refl

pub returns-clause-ok : goal.returns-clause-ok
returns-clause-ok c =
    let enough : c.args.size ≤ c.in_ok-stretch.stretch.room = c.in_ok-stretch.ensures.enough in
    packed-room c.args.arena.now c.requires.laid c.args.slot c.args.size c.in_ok-stretch.stretch.from
    c.in_ok-stretch.stretch.until c.in_ok-stretch.stretch.room c.in_ok-stretch.ensures.roomy
    enough
    (elim c.if-has.branch [
      | then-has+else-stretch-place w ↦ inr (elim w.else-stretch-place.branch [
        | else-stretch-place-via-then-stretch-place+else-place-stretch w' ↦ inr (omega (arith, w.place-place.ensures, w'.if-place-stretch.false))
        | else-stretch-place-via-else-stretch-place w' ↦ inl (omega (arith, w.place-place.ensures, w'.if-stretch-place.false))
      ])
      | else-has w ↦ inl (λ h. let never : false ≡ true = w.if-has.ensures.1 h in cc)
    ])
    c.pack_down-at-2.new.arena c.pack_down-at-2.result c.pack_down-at-2.ensures.moves c.pack_down-at-2.ensures.free
    c.pack_down-at-2.ensures.packed (record { at = c.pack_down-at-2.result; end = c.in_ok-stretch.stretch.until }) refl
