-- The row after an instruction that is no call.
use Rattle.std.proofs.Common.{◌≡◌, refl}
use Rattle.geos_opcodes.specs.declared.opcode.Opcode.{Opcode}
use Rattle.geos_opcodes.specs.declared.opcode.Opcode.TheVariants.{Call}
use Rattle.geos_image.specs.declared.instr.Instr.{Instr}
use Rattle.geos_image.specs.declared.row.Row.{Row}
use Rattle.geos_image.specs.Parts.{Parts}
use Rattle.geos_opcodes.specs.Facts.{uses_of}
use Rattle.geos_verify.specs.Rows.{bounded, used, row_along}

-- where no routine is called, the row goes by the table of uses
pub row_along-used : (image : Parts) (i : Instr) (opcode : Opcode) (row : Row) → (opcode ≡ Call → ⊥)
    → row_along image i opcode row ≡ used i (uses_of opcode) (bounded i opcode row)
row_along-used image i Call row other = absurd (other refl)
row_along-used image i _ row other = refl
