-- The slots, the pointers and the words that an instruction names are ones that there are.
use Rattle.geos_opcodes.specs.declared.opcode.Opcode.{Opcode}
use Rattle.geos_opcodes.specs.declared.opcode.Opcode.TheVariants.{Ldi}
use Rattle.geos_opcodes.specs.Facts.{facts, uses_of}
use Rattle.geos_image.specs.declared.instr.Instr.{Instr}
use Rattle.geos_image.specs.Fields.{FieldsFit}
use Rattle.geos_verify.specs.Uses.{UsesFit}
use Rattle.geos_verify.specs.Rows.{YieldsFit}

pub uses-fit : (opcode : Opcode) (i : Instr) → FieldsFit opcode i → UsesFit (uses_of opcode) i
uses-fit Ldi i h = (tt, tt)
uses-fit _ i h = assumption h

pub yields-fit : (opcode : Opcode) (i : Instr) → FieldsFit opcode i → YieldsFit (facts opcode).yields i
yields-fit Ldi i h = tt
yields-fit _ i h = assumption h
