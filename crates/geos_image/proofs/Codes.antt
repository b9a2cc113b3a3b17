-- Which opcode a byte encodes.
use Rattle.std.proofs.Common.{◌≡◌, ℕ, Some}
use Rattle.std.specs.Prelude.{◌==◌}
use Rattle.std.proofs.lemmas.Bool.{eqb-true}
use Rattle.geos_opcodes.specs.declared.opcode.Opcode.{Opcode}
use Rattle.geos_opcodes.specs.Facts.{code_of, opcodes, opcode_of}
use Rattle.geos_image.proofs.Steps.{find_passes}

-- if a byte encodes an opcode, it is the code of this opcode
pub code_found : (code : ℕ) (opcode : Opcode) → opcode_of code ≡ Some opcode → code_of opcode ≡ code
code_found code opcode h = eqb-true _ _ (find_passes (λ o. code_of o == code) opcodes opcode h)
