use Rattle.std.proofs.Common.{◌≡◌, ◌≤◌, ◌+◌, ◌∙◌, ℕ, length, true, slice_get, sym, subst, arith}
use Rattle.geos_image.specs.declared.routine.Routine.{Routine}
use Rattle.geos_verify.proofs.Places.{if_some}
use Rattle.geos_asm.specs.Unset.{owes_at, MarksUnset}
use Rattle.geos_asm.proofs.Unsetting.{taken-at, not-taken, none-more, none-in}
use Rattle.geos_asm.proofs.unset.unset_loop.Goals as goal

pub loop-pc-preserved : goal.loop-pc-preserved
loop-pc-preserved c =
    let image = c.args.image.now in
    let r = c.args.r in
    let start = c.start-start.ensures.start in
    let marks = c.unset_from-marks.result in
    let led = subst (λ (n : ℕ). MarksUnset image n c.routine.result.now.count c.args.k marks) start c.unset_from-marks.ensures in
    none-more image r c.args.k c.start-start.result c.loop-pc.pc c.loop-pc.invariant
    (not-taken image r c.args.k c.loop-pc.pc c.routine.result.now c.instr.result.now marks c.routine.ensures c.instr.ensures.there led
    (sym c.is_taken.ensures ∙ c.if-is_taken.false))

pub returns-then-is_taken-clause-some : goal.returns-then-is_taken-clause-some
returns-then-is_taken-clause-some c =
    let image = c.args.image.now in
    let start = c.start-start.ensures.start in
    let marks = c.unset_from-marks.result in
    let led = subst (λ (n : ℕ). MarksUnset image n c.routine.result.now.count c.args.k marks) start c.unset_from-marks.ensures in
    let owed = subst (λ (n : ℕ). owes_at image c.args.k n ≡ true) start (sym c.owes_at.ensures ∙ c.if-not-owes_at.false) in
    let room = if_some (λ (routine : Routine). c.start-start.result + routine.count ≤ length image.points)
    (slice_get image.routines c.args.r) c.routine.result.now c.routine.ensures c.start-start.ensures.room in
    taken-at image c.args.r c.args.k c.loop-pc.pc c.routine.result.now c.instr.result.now marks c.routine.ensures
    (omega (arith, start, c.loop-pc.auto.pc)) (omega (arith, start, c.loop-pc-test.true)) (omega (arith, room, c.loop-pc-test.true))
    c.instr.ensures.there owed led (sym c.is_taken.ensures ∙ c.if-is_taken.true)

pub returns-clause-none : goal.returns-clause-none
returns-clause-none c =
    let image = c.args.image.now in
    let start = c.start-start.ensures.start in
    none-in image c.args.r c.args.k c.loop-pc.pc c.routine.result.now c.routine.ensures (omega (arith, start, c.loop-pc-test.false))
    (λ pc from. c.loop-pc.invariant pc (omega (arith, start, from)))
