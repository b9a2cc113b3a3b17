-- How an instruction is written: its name, then the operands of the fields that it uses.
use Rattle.std.specs.Prelude.{◌≡◌, ◌<◌, ℕ, Bool, false, ◌==◌, if◌then◌else◌, List, [], ◌++◌, length, Option, Some, None, take, unwrap_or, slice_get, slice_index_or, flat_map, codes, decimal}
use Rattle.std.specs.List.{list_any}
use Rattle.std.specs.Option.{option_map_or}
use Rattle.geos_opcodes.specs.declared.opcode.Operand.{Operand}
use Rattle.geos_opcodes.specs.declared.opcode.Operand.TheVariants.{Unused, Word, Counter, Slot, Pointer, Number, Shift, Routine, Label}
use Rattle.geos_image.specs.declared.instr.Instr.{Instr}
use Rattle.geos_image.specs.declared.routine.Routine as routine
use Rattle.geos_image.specs.declared.point.Point.{Point}
use Rattle.geos_image.specs.Parts.{Parts}
use Rattle.geos_image.specs.Legal.{text_end}
use Rattle.geos_opcodes.specs.Facts.{operands_of, limit, word_of}
use Rattle.geos_opcodes.specs.Facts.{word_of}
use Rattle.geos_opcodes.specs.declared.fields.Field.{Field}
use Rattle.geos_opcodes.specs.Fields.{fields, operand_at}
use Rattle.geos_image.specs.Fields.{value_at}

-- a routine's name without the zeros at its end
abbrev pub name_of : routine.Routine → List ℕ
name_of r = take (unwrap_or (text_end r.name) 16) r.name

-- the label of an instruction: L and its pc
abbrev pub label_of : ℕ → List ℕ
label_of pc = codes "L" ++ decimal pc

-- each field is below the limit of what it holds
abbrev pub KeepsLimits : Parts → Instr → Type 0
KeepsLimits image i = (field : Field) → value_at i field < limit (length image.routines) (length image.points) (operand_at i.opcode field)

-- a blank and an operand; nothing for an unused field
abbrev pub operand_text : List routine.Routine → Operand → ℕ → List ℕ
operand_text routines Unused n = []
operand_text routines Word n = codes " w" ++ decimal n
operand_text routines Counter n = codes " k" ++ decimal n
operand_text routines Slot n = codes " s" ++ decimal n
operand_text routines Pointer n = codes " p" ++ decimal n
operand_text routines Number n = codes " " ++ decimal n
operand_text routines Shift n = codes " " ++ decimal n
operand_text routines Routine n = codes " " ++ option_map_or name_of (slice_get routines n) []
operand_text routines Label n = codes " " ++ label_of n

-- the operands of an instruction
abbrev pub operands_text : List routine.Routine → Instr → List ℕ
operands_text routines i = flat_map (λ field. operand_text routines (operand_at i.opcode field) (value_at i field)) fields

-- an instruction, indented: its word and its operands
abbrev pub instr_code : List routine.Routine → Instr → List ℕ
instr_code routines i = codes "    " ++ word_of i.opcode ++ operands_text routines i

-- the line of an instruction: its word and its operands; it is indented
abbrev pub instr_line : List routine.Routine → Instr → List ℕ
instr_line routines i = codes "    " ++ word_of i.opcode ++ operands_text routines i ++ codes "\n"

-- the label's pc, if the field holds a label
abbrev pub target_if : Operand → ℕ → Option ℕ
target_if Unused n = None
target_if Word n = None
target_if Counter n = None
target_if Slot n = None
target_if Pointer n = None
target_if Number n = None
target_if Shift n = None
target_if Routine n = None
target_if Label n = Some n

-- where an instruction may lead besides the next one
abbrev pub target_of : Instr → Option ℕ
target_of i = target_if (operands_of i.opcode).target i.target

-- whether it is this pc
abbrev pub is_at : ℕ → Option ℕ → Bool
is_at pc None = false
is_at pc (Some n) = n == pc

-- whether some instruction may lead to the pc by its label
abbrev pub is_target : List Point → ℕ → Bool
is_target points pc = list_any (λ point. is_at pc (target_of point.instr)) points

-- a mark for each pc: whether some instruction may lead to it by its label
abbrev pub MarksTargets : List Point → List Bool → Type 0
MarksTargets points marks = (pc : ℕ) → pc < 4096 → slice_index_or marks pc false ≡ is_target points pc

-- the line of a label, where there is one
abbrev pub label_line : List Point → ℕ → List ℕ
label_line points pc = if is_target points pc then label_of pc ++ codes ":\n" else []
