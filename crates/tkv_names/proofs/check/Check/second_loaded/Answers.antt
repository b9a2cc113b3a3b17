use Rattle.std.proofs.Common.{sym, ◌∙◌}
use Rattle.geos_opcodes.specs.contracts.opcode.Opcode.{the_type}
use Rattle.geos_opcodes.specs.declared.opcode.Opcode.TheVariants as op
use denote.Enum.Bare.{differs_false}
use Rattle.tkv_names.proofs.Cases.{load_second}
use Rattle.tkv_names.proofs.check.Check.second_loaded.Goals as goal

pub returns : goal.returns
returns c is = load_second c.args.self.now.text.now c.args.self.now.items.now c.args.self.now.placed.now c.args.seen c.in_ok-instr.instr c.args.number
    c.in_ok-next.next c.in_ok-instr.ensures (differs_false the_type tt c.in_ok-instr.instr.opcode op.Ldi (sym c.ne.ensures ∙ c.if-ne.false))
    c.if-instr-number.false c.in_ok-next.ensures is
