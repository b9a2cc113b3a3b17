-- Calls of routines that do not come before the calling routine.
use Rattle.std.specs.Prelude.{◌≡◌, ℕ, Bool, true, false, ◌&&◌, not, nat_lt, List, Some, slice_get, slice_index_or}
use Rattle.geos_image.specs.declared.instr.Instr.{Instr}
use Rattle.geos_image.specs.declared.point.Point.{Point}
use Rattle.geos_image.specs.declared.routine.Routine.{Routine}
use Rattle.geos_image.specs.Parts.{Parts, start_of}
use Rattle.geos_source.specs.InstrLines.{instr_lines}
use Rattle.geos_verify.specs.Rules.{has_place}
use Rattle.geos_verify.specs.Touched.{calls}
use Rattle.geos_asm.specs.Assembling.{IsAssembled}

-- an instruction calls a routine that does not come before routine r
abbrev pub calls_on : ℕ → Instr → Bool
calls_on r i = calls i.opcode && not (nat_lt i.imm r)

-- routine r has this instruction, at a pc
pub record HasInstr (image : Parts) (r pc : ℕ) (point : Point) : Type 0 where
  pub routine : Routine
  pub there : slice_get image.routines r ≡ Some routine
  pub within : has_place (start_of image.routines r) routine.count pc ≡ true
  pub read : slice_get image.points pc ≡ Some point

-- the instruction at a pc calls a routine that does not come before its own
pub record CallsOnAt (image : Parts) (pc : ℕ) : Type 0 where
  pub r : ℕ
  pub point : Point
  pub has : HasInstr image r pc point
  pub on : calls_on r point.instr ≡ true

-- no instruction of routine r does this
abbrev pub CallBeforeIn : Parts → ℕ → Type 0
CallBeforeIn image r = (pc : ℕ) (point : Point) → HasInstr image r pc point → calls_on r point.instr ≡ false

-- each call leads to a routine before its own
abbrev pub CallBefore : Parts → Type 0
CallBefore image = (r : ℕ) → CallBeforeIn image r

-- the line of the instruction at a pc, by a table of them
abbrev pub line_at : List ℕ → ℕ → ℕ
line_at lines pc = slice_index_or lines pc 0

-- an instruction on a line of the text calls a routine that does not come before its own
pub record CallsOnIn (text : List ℕ) (line : ℕ) : Type 0 where
  pub image : Parts
  pub assembled : IsAssembled text image
  pub pc : ℕ
  pub calling : CallsOnAt image pc
  pub there : line ≡ line_at (instr_lines text) pc
