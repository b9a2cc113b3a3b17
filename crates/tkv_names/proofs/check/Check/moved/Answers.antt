use Rattle.std.proofs.Common.{sym, ◌∙◌}
use Rattle.geos_opcodes.specs.contracts.opcode.Opcode.{the_type}
use Rattle.geos_opcodes.specs.declared.opcode.Opcode.TheVariants as op
use denote.Enum.Bare.{differs_false}
use Rattle.tkv_names.proofs.Cases.{move}
use Rattle.tkv_names.proofs.check.Check.moved.Goals as goal

pub returns : goal.returns
returns c is = move c.args.self.now.text.now c.args.self.now.items.now c.args.self.now.placed.now c.args.seen c.in_ok-instr.instr c.args.register
    c.in_ok-next.next c.in_ok-instr.ensures (differs_false the_type tt c.in_ok-instr.instr.opcode op.Mov (sym c.ne-2.ensures ∙ c.if-ne-2.false))
    c.if-instr-register.false c.in_ok-next.ensures is
