use Rattle.std.specs.Prelude.{◌≡◌, ◌++◌, take, flat_map}
use Rattle.geos_opcodes.specs.declared.fields.Field.{Field}
use Rattle.geos_opcodes.specs.Fields.{operand_at}
use Rattle.geos_image.specs.Fields.{value_at}
use Rattle.geos_listing.specs.Instrs.{operand_text}
use Rattle.geos_listing.proofs.instrs.put_operands.Given as goal

abbrev pub invariant-loop-field : goal.invariant-loop-field
invariant-loop-field l =
    l.out.items ≡ l.initial.out.items ++ flat_map
    (λ (field : Field). operand_text l.image.routines (operand_at l.instr.opcode field) (value_at l.instr field)) (take l.field-index l.field-items)
