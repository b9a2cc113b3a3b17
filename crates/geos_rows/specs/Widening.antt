-- How exact rows stay that are weakened again and again.
use Rattle.std.specs.Prelude.{◌≡◌, ◌⊎◌, ℕ, Bool, true, false, slice_get, Some}
use Rattle.geos_opcodes.specs.declared.opcode.Opcode.{Opcode}
use Rattle.geos_opcodes.specs.declared.opcode.Opcode.TheVariants.{Chk, And, Ldi}
use Rattle.geos_image.specs.declared.point.Point.{Point}
use Rattle.geos_image.specs.Parts.{Parts}
use Rattle.geos_code.specs.Code.{IsPcOf}
use Rattle.geos_rows.specs.declared.widening.Kept.{Kept}
use Rattle.geos_rows.specs.declared.widening.Kept.TheVariants.{Join}

-- the join stays exact
abbrev pub is_join : Kept → Bool
is_join Join = true
is_join _ = false

-- an instruction with this opcode bounds a word by a constant
abbrev pub bounds_word : Opcode → Bool
bounds_word Chk = true
bounds_word And = true
bounds_word Ldi = true
bounds_word _ = false

-- the instruction at a pc bounds a word by this constant
abbrev pub IsConstantAt : Parts → ℕ → ℕ → Type 0
IsConstantAt image pc n = (point : Point) × (slice_get image.points pc ≡ Some point) × (bounds_word point.instr.opcode ≡ true)
    × (point.instr.imm ≡ n)

-- an instruction of routine r bounds a word by n, or n is 15, 255 or 65,535
abbrev pub IsBound : Parts → ℕ → ℕ → Type 0
IsBound image r n = (n ≡ 255) ⊎ (n ≡ 15) ⊎ (n ≡ 65535) ⊎ ((pc : ℕ) × IsPcOf image r pc × IsConstantAt image pc n)
