-- Structured programs whose names are registers.
use Rattle.std.specs.Prelude.{◌≡◌, ℕ, Bool, true, false}
use Rattle.geos_image.specs.declared.instr.Instr.{Instr}
use Rattle.geos_opcodes.specs.declared.opcode.Opcode.{Opcode}
use Rattle.geos_opcodes.specs.declared.opcode.Opcode.TheVariants as op
use Rattle.geos_opcodes.specs.declared.opcode.Operand.{Operand}
use Rattle.geos_opcodes.specs.declared.opcode.Operand.TheVariants.{Label}
use Rattle.geos_opcodes.specs.Facts.{operands_of}

-- statements: nothing; an instruction after which control continues; an instruction that leaves to the end of a block
-- if it is refused or its test fails; a leave to the end of a block; a sequence; a block with a label; a loop that
-- tests its counter after each iteration, or before each iteration; and a statement with an instruction (an unlock) on
-- each path out of it
pub data Stmt : Type 0 where
  Skip : Stmt
  Act : Instr → Stmt
  Try : Instr → ℕ → Stmt
  Leave : ℕ → Stmt
  Then : Stmt → Stmt → Stmt
  Block : ℕ → Stmt → Stmt
  Loop : ℕ → Stmt → Stmt
  Count : ℕ → Stmt → Stmt
  Closing : Stmt → Instr → Stmt

-- the instruction is no jump, loop, call or return
abbrev pub is_plain : Opcode → Bool
is_plain op.Jmp = false
is_plain op.Loop = false
is_plain op.Call = false
is_plain op.Ret = false
is_plain _ = true

-- the operand is a label
abbrev pub is_label : Operand → Bool
is_label Label = true
is_label _ = false

-- the instruction may go to a target
abbrev pub has_target : Opcode → Bool
has_target opcode = is_label (operands_of opcode).target

-- after the instruction control always continues
abbrev pub Continues : Opcode → Type 0
Continues opcode = (is_plain opcode ≡ true) × (has_target opcode ≡ false)

-- the statement has only instructions that it may have
abbrev pub IsFormed : Stmt → Type 0
IsFormed Skip = Unit {0}
IsFormed (Act i) = Continues i.opcode
IsFormed (Try i l) = is_plain i.opcode ≡ true
IsFormed (Leave l) = Unit {0}
IsFormed (Then a b) = IsFormed a × IsFormed b
IsFormed (Block l a) = IsFormed a
IsFormed (Loop k a) = IsFormed a
IsFormed (Count k a) = IsFormed a
IsFormed (Closing a i) = IsFormed a × Continues i.opcode
