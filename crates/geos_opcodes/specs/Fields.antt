-- The operands of an instruction in a text: which fields they are of, in which order, and in
-- which form.
use Rattle.std.specs.Prelude.{ℕ, Bool, true, false, List, [], ◌∷◌, Option, Some, None}
use Rattle.geos_opcodes.specs.declared.opcode.Opcode.{Opcode}
use Rattle.geos_opcodes.specs.declared.opcode.Operand.{Operand}
use Rattle.geos_opcodes.specs.declared.opcode.Operand.TheVariants.{Unused, Word, Counter, Slot, Pointer, Number, Shift, Routine, Label}
use Rattle.geos_opcodes.specs.Facts.{operands_of}
use Rattle.geos_opcodes.specs.declared.fields.Field.{Field}
use Rattle.geos_opcodes.specs.declared.fields.Field.TheVariants.{A, B, C, D, Imm, Target}

-- the fields in the order of their operands in a text
abbrev pub fields : List Field
fields = A ∷ B ∷ C ∷ D ∷ Imm ∷ Target ∷ []

-- what a field of an opcode's instructions holds
abbrev pub operand_at : Opcode → Field → Operand
operand_at opcode A = (operands_of opcode).a
operand_at opcode B = (operands_of opcode).b
operand_at opcode C = (operands_of opcode).c
operand_at opcode D = (operands_of opcode).d
operand_at opcode Imm = (operands_of opcode).imm
operand_at opcode Target = (operands_of opcode).target

-- a text writes an operand for each field that is used
abbrev pub is_written : Operand → Bool
is_written Unused = false
is_written Word = true
is_written Counter = true
is_written Slot = true
is_written Pointer = true
is_written Number = true
is_written Shift = true
is_written Routine = true
is_written Label = true

-- registers are written as a letter and a digit: w, k, s and p; other operands have no letter
abbrev pub register_letter : Operand → Option ℕ
register_letter Unused = None
register_letter Word = Some 119
register_letter Counter = Some 107
register_letter Slot = Some 115
register_letter Pointer = Some 112
register_letter Number = None
register_letter Shift = None
register_letter Routine = None
register_letter Label = None
