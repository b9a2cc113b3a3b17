use Rattle.std.proofs.Common.{refl, List, ℕ}
use Rattle.geos_opcodes.specs.declared.fields.Field.{Field}
use Rattle.geos_opcodes.specs.declared.fields.Field.TheVariants.{A}
use Rattle.geos_opcodes.specs.Fields.{fields, operand_at}
use Rattle.geos_image.specs.Fields.{value_at}
use Rattle.geos_listing.specs.Instrs.{operand_text}
use Rattle.geos_text.proofs.Texts.{flat_map-step}
use Rattle.geos_listing.proofs.instrs.put_operands.Goals as goal

pub loop-field-preserved : goal.loop-field-preserved
loop-field-preserved c =
    let i = c.args.instr.now in
    let text : Field → List ℕ = λ field. operand_text c.args.image.now.routines (operand_at i.opcode field) (value_at i field) in
    let piece = operand_text c.args.image.now.routines c.operand_at-operand.result c.value_at.result in
    flat_map-step c.args.out.now.items c.loop-field.out.items c.put_operand.new.out.items piece text fields
    c.loop-field.field-index A c.loop-field-test.true c.loop-field.invariant c.in_ok-put_operand.ensures
    (rw (c.operand_at-operand.ensures, c.value_at.ensures) refl)
