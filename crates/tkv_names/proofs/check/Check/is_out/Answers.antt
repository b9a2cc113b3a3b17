use Rattle.std.proofs.Common.{◌≡◌, sym, ◌∙◌, arith}
use Rattle.geos_opcodes.specs.contracts.opcode.Opcode.{the_type}
use Rattle.geos_opcodes.specs.declared.opcode.Opcode.TheVariants as op
use denote.Enum.Bare.{differs_false}
use Rattle.tkv_names.proofs.Passing.{is_out}
use Rattle.tkv_names.proofs.check.Check.is_out.Goals as goal

pub returns-else-fork-register : goal.returns-else-fork-register
returns-else-fork-register c t = is_out c.args.self.now.placed.now c.args.seen.now.placed c.args.seen.now.level c.in-Some.fork.target.index c.in-Some.fork.target.level
    c.args.register c.in-Some.fork.instr c.in-Some.ensures
    (differs_false the_type tt c.in-Some.fork.instr.opcode op.Out (sym c.ne.ensures ∙ c.if-ne.false)) register (c.is_over.ensures t)
  where
    register : c.in-Some.fork.instr.a ≡ c.args.register
    register = omega arith
