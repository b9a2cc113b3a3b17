use Rattle.std.proofs.Common.{true, None, refl, sym, arith}
use Rattle.std.proofs.lemmas.Result.{err_from_is_err_and}
use Rattle.geos_image.proofs.Items.{bare-more, bare-fault, bare-end}
use Rattle.geos_image.proofs.Pushes.{points-push, instrs-push}
use Rattle.geos_opcodes.specs.declared.opcode.Opcode.TheVariants.{Ldi}
use Rattle.geos_image.proofs.reader.points.bare_at.Goals as goal

pub loop-instr-preserved : goal.loop-instr-preserved
loop-instr-preserved c = (
  omega arith,
  rw (c.push_reserved.ensures.items, c.bare.ensures) (instrs-push c.args.code.now c.loop-instr.points.items c.loop-instr.instr-index _
      None c.in_ok-potential.potential c.loop-instr-test.true c.loop-instr.invariant.1),
  (λ routines instrs h. rw (c.push_reserved.ensures.items, c.bare.ensures)
      (points-push true routines instrs c.args.code.now c.loop-instr.points.items c.loop-instr.instr-index _ None c.in_ok-potential.potential
      c.loop-instr-test.true (c.loop-instr.invariant.2 routines instrs) refl h)),
  rw (c.push_reserved.ensures.items, c.bare.ensures) (bare-more c.args.bytes.now c.args.code.now _ c.loop-instr.points.items
      c.loop-instr.instr-index c.loop-instr.at _ c.in_ok-potential.potential
      c.loop-instr-test.true (sym c.in_ok-potential.ensures) c.loop-instr.invariant.3),
  omega (arith, c.push_reserved.ensures.len, c.loop-instr.invariant.4),
  omega (arith, c.push_reserved.ensures.capacity, c.loop-instr.invariant.5),
)

pub returns-clause-exact : goal.returns-clause-exact
returns-clause-exact c = bare-end c.args.bytes.now c.args.code.now _ c.loop-instr.points.items c.loop-instr.instr-index
    c.loop-instr.at c.loop-instr-test.false c.loop-instr.invariant.3

pub returns-in_err-potential-clause-exact : goal.returns-in_err-potential-clause-exact
returns-in_err-potential-clause-exact c =
    let p = err_from_is_err_and c.from_residual-in_err-potential.result c.from_residual-in_err-potential.ensures.1 in
    rw (p.1, p.2) (bare-fault c.args.bytes.now c.args.code.now _ c.loop-instr.points.items c.loop-instr.instr-index
    c.loop-instr.at c.in_err-potential.field-0.0 (record { opcode = Ldi; a = 0; b = 0; c = 0; d = 0; imm = 0; target = 0 })
    c.loop-instr-test.true (sym c.in_err-potential.ensures) c.loop-instr.invariant.3)
