-- If the edges of an instruction stay in its routine, they stay within the image.
use Rattle.std.proofs.Common.{◌≡◌, ◌+◌, ◌<◌, ◌≤◌, ℕ, true, length, refl, arith}
use Rattle.geos_opcodes.specs.declared.opcode.Operand.{Operand}
use Rattle.geos_opcodes.specs.declared.opcode.Operand.TheVariants.{Label}
use Rattle.geos_opcodes.specs.Facts.{operands_of}
use Rattle.geos_image.specs.declared.instr.Instr.{Instr}
use Rattle.geos_image.specs.declared.routine.Routine.{Routine}
use Rattle.geos_image.specs.Parts.{Parts}
use Rattle.geos_image.specs.Fields.{FieldsFit, TargetFits, CalleeFits}
use Rattle.geos_image.specs.Keys.{is_label, falls_through}
use Rattle.geos_verify.specs.Touched.{calls}
use Rattle.geos_verify.specs.Rules.{GoesWithin}

label_of : (operand : Operand) → is_label operand ≡ true → operand ≡ Label
label_of Label e = refl
label_of _ e = absurd cc

pub goes-within : (image : Parts) (r start pc : ℕ) (routine : Routine) (i : Instr) → start + routine.count ≤ length image.points
    → length image.points ≤ 4096 → pc < length image.points
    → FieldsFit i.opcode i → TargetFits (length image.points) i → CalleeFits (length image.routines) i
    → (falls_through i.opcode ≡ true → pc + 1 < start + routine.count) → (calls i.opcode ≡ true → i.imm < r) → GoesWithin image r pc i
goes-within image r start pc routine i end short there fields target callee stays lower = record {
  fields = fields;
  callee = callee;
  lower = lower;
  along = λ e. let within : pc + 1 < start + routine.count = stays e in omega arith;
  branch = λ e. target (label_of (operands_of i.opcode).target e);
  short = omega arith;
}
