use Rattle.std.proofs.Common.{◌≡◌, true, false, Some, refl, sym, rules, arith}
use Rattle.std.proofs.lemmas.Result.{err_from_is_err_and}
use Rattle.geos_image.proofs.Items.{entry_whole, entry_no_row, entry_no_potential, points-more, points-fault, points-end}
use Rattle.geos_image.proofs.Pushes.{points-push}
use Rattle.geos_image.proofs.RepeatLaws.{LastHas, last-push, repeats-push}
use Rattle.geos_opcodes.specs.declared.opcode.Opcode.TheVariants.{Ldi}
use Rattle.geos_image.proofs.reader.points.points_at.Goals as goal

pub loop-pc-preserved : goal.loop-pc-preserved
loop-pc-preserved c =
    let entry = entry_whole c.args.bytes.now c.loop-pc.at c.row_like.new.row c.in_ok-potential.potential
    c.in_ok-repeats.ensures.exact (sym c.in_ok-potential.ensures) in (
      omega arith,
      omega (arith, c.push_reserved.ensures.len),
      (λ routines instrs h. rw (c.push_reserved.ensures.items, c.told.ensures)
          (points-push false routines instrs c.args.code.now c.loop-pc.points.items c.loop-pc.pc _
          (Some c.row_like.new.row) c.in_ok-potential.potential
          c.loop-pc-test.true (c.loop-pc.invariant.2 routines instrs) c.in_ok-repeats.ensures.legal h)),
      rw (c.push_reserved.ensures.items, c.told.ensures) (points-more c.args.bytes.now c.args.code.now _ c.loop-pc.points.items
          c.loop-pc.pc c.loop-pc.at _ c.row_like.new.row c.in_ok-potential.potential
          c.loop-pc-test.true entry c.loop-pc.invariant.3),
      omega arith,
      (λ behind. c.in_ok-repeats.ensures.exact),
      (λ behind. c.in_ok-repeats.ensures.legal),
      omega (arith, c.push_reserved.ensures.capacity, c.loop-pc.invariant.7),
      rw (c.push_reserved.ensures.items, c.told.ensures) (repeats-push c.loop-pc.repeats c.loop-pc.points.items _ c.row_like.new.row
          c.loop-pc.pc c.in_ok-repeats.field-0 c.loop-pc.invariant.1 (search rules) c.loop-pc.invariant.8 last refl),
      (λ behind. rw (c.push_reserved.ensures.items, c.told.ensures) (last-push c.loop-pc.points.items _ c.row_like.new.row refl)),
    ) where
      last : c.in_ok-repeats.field-0 ≡ true → LastHas c.loop-pc.points.items c.row_like.new.row
      last known =
          let is = c.in_ok-repeats.ensures.known known in
          rw is.1 (c.loop-pc.invariant.9 is.0)

pub returns-clause-exact : goal.returns-clause-exact
returns-clause-exact c = points-end c.args.bytes.now c.args.code.now _ c.loop-pc.points.items c.loop-pc.pc
    c.loop-pc.at c.loop-pc-test.false c.loop-pc.invariant.3

pub returns-in_err-repeats-clause-exact : goal.returns-in_err-repeats-clause-exact
returns-in_err-repeats-clause-exact c =
    let p = err_from_is_err_and c.from_residual-in_err-repeats.result c.from_residual-in_err-repeats.ensures.1 in
    let entry = entry_no_row c.args.bytes.now c.loop-pc.at c.in_err-repeats.field-0.0 c.in_err-repeats.ensures.exact in
    rw (p.1, p.2) (points-fault c.args.bytes.now c.args.code.now _ c.loop-pc.points.items c.loop-pc.pc
    c.loop-pc.at c.in_err-repeats.field-0.0 (record { opcode = Ldi; a = 0; b = 0; c = 0; d = 0; imm = 0; target = 0 })
    c.loop-pc-test.true entry c.loop-pc.invariant.3)

pub returns-in_err-potential-clause-exact : goal.returns-in_err-potential-clause-exact
returns-in_err-potential-clause-exact c =
    let p = err_from_is_err_and c.from_residual-in_err-potential.result c.from_residual-in_err-potential.ensures.1 in
    let entry = entry_no_potential c.args.bytes.now c.loop-pc.at c.in_err-potential.field-0.0 c.row_like.new.row
    c.in_ok-repeats.ensures.exact (sym c.in_err-potential.ensures) in
    rw (p.1, p.2) (points-fault c.args.bytes.now c.args.code.now _ c.loop-pc.points.items c.loop-pc.pc
    c.loop-pc.at c.in_err-potential.field-0.0 (record { opcode = Ldi; a = 0; b = 0; c = 0; d = 0; imm = 0; target = 0 })
    c.loop-pc-test.true entry c.loop-pc.invariant.3)
