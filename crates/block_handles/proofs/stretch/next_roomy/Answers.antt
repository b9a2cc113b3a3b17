use Rattle.std.proofs.Common.{refl, arith}
use Rattle.block_handles.proofs.Passes.{pass-init, pass-own, pass-unlocked, pass-locked, roomy-before}
use Rattle.block_handles.proofs.stretch.next_roomy.Goals as goal
use Rattle.block_handles.proofs.stretch.next_roomy.Goals.{then-slot-but+then-locks-gt0+else-room-least, then-slot-but+else-locks-gt0, else-slot-but}

pub loop-slot-init : goal.loop-slot-init
loop-slot-init c = pass-init c.args.arena.now c.requires.laid c.args.but c.args.after c.requires.edge c.requires.inside

pub returns-then-room-least-clause-roomy : goal.returns-then-room-least-clause-roomy
returns-then-room-least-clause-roomy c =
    let first = rw c.len-len.ensures at c.in-Some.ensures.found in
    rw c.place-place.ensures (roomy-before c.args.arena.now c.requires.laid c.args.but c.loop-slot.from c.loop-slot.scan
    c.loop-slot.taken c.in-Some.slot c.loop-slot.invariant first _ refl)

pub loop-slot-preserved : goal.loop-slot-preserved
loop-slot-preserved c =
    let first = rw c.len-len.ensures at c.in-Some.ensures.found in
    elim c.if-slot-but.branch [
      | then-slot-but+then-locks-gt0+else-room-least w ↦ rw (w.from-is, w.taken-is, c.place-place.ensures, c.size-size.ensures)
          (pass-locked c.args.arena.now c.requires.laid c.args.but c.loop-slot.from c.loop-slot.scan c.loop-slot.taken
          c.in-Some.slot c.loop-slot.invariant first)
      | then-slot-but+else-locks-gt0 w ↦ rw (w.from-is, w.taken-is, c.place-place.ensures, c.size-size.ensures)
          (pass-unlocked c.args.arena.now c.requires.laid c.args.but c.loop-slot.from c.loop-slot.scan c.loop-slot.taken
          c.in-Some.slot c.loop-slot.invariant first w.if-slot-but.true (omega (arith, w.locks.ensures, w.if-locks-gt0.false)))
      | else-slot-but w ↦ rw (w.from-is, w.taken-is, c.place-place.ensures, c.size-size.ensures)
          (pass-own c.args.arena.now c.requires.laid c.args.but c.loop-slot.from c.loop-slot.scan c.loop-slot.taken
          c.in-Some.slot c.loop-slot.invariant first w.if-slot-but.false)
    ]
