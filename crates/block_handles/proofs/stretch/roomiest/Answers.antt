use Rattle.std.proofs.Common.{arith}
use Rattle.block_handles.proofs.Walks.{walk-init, walk-own, walk-unlocked, walk-locked, walk-done}
use Rattle.block_handles.proofs.stretch.roomiest.Goals as goal
use Rattle.block_handles.proofs.stretch.roomiest.Goals.{then-slot-but+then-locks-gt0, then-slot-but+else-locks-gt0, else-slot-but}

pub loop-slot-init : goal.loop-slot-init
loop-slot-init c = walk-init c.args.arena.now c.requires c.args.but

pub loop-slot-preserved : goal.loop-slot-preserved
loop-slot-preserved c =
    let first = rw c.len-len.ensures at c.in-Some.ensures.found in
    elim c.if-slot-but.branch [
      | then-slot-but+then-locks-gt0 w ↦
          let wider = rw c.place-place.ensures at w.or_wider-best.ensures in
          rw (w.best-is, w.from-is, w.taken-is, c.place-place.ensures, c.size-size.ensures)
          (walk-locked c.args.arena.now c.requires c.args.but c.loop-slot.from c.loop-slot.scan c.loop-slot.taken
          c.in-Some.slot c.loop-slot.best c.loop-slot.invariant first w.if-slot-but.true
          (omega (arith, w.locks.ensures, w.if-locks-gt0.true)) w.or_wider-best.result wider)
      | then-slot-but+else-locks-gt0 w ↦ rw (w.best-is, w.from-is, w.taken-is, c.place-place.ensures, c.size-size.ensures)
          (walk-unlocked c.args.arena.now c.requires c.args.but c.loop-slot.from c.loop-slot.scan c.loop-slot.taken
          c.in-Some.slot c.loop-slot.best c.loop-slot.invariant first w.if-slot-but.true (omega (arith, w.locks.ensures, w.if-locks-gt0.false)))
      | else-slot-but w ↦ rw (w.best-is, w.from-is, w.taken-is, c.place-place.ensures, c.size-size.ensures)
          (walk-own c.args.arena.now c.requires c.args.but c.loop-slot.from c.loop-slot.scan c.loop-slot.taken
          c.in-Some.slot c.loop-slot.best c.loop-slot.invariant first w.if-slot-but.false)
    ]

pub returns : goal.returns
returns c =
    let none = rw c.len-len.ensures at c.in_default.ensures.none in
    let wider = rw c.len-len.ensures at c.or_wider.ensures in
    walk-done c.args.arena.now c.requires c.args.but c.loop-slot.from c.loop-slot.scan c.loop-slot.taken c.loop-slot.best
    c.or_wider.result c.loop-slot.invariant none wider
