-- That a routine is one of an image, and an instruction one of the routine.
use Rattle.std.specs.Prelude.{◌≡◌, ◌<◌, ◌≤◌, ℕ, ◌+◌, true, length, slice_get, IfSome}
use Rattle.std.specs.Coded.{Unit-prop, le_prop}
use Rattle.geos_image.specs.Fields.{OperandFits}
use Rattle.geos_opcodes.specs.declared.opcode.Operand.{Operand}
use Rattle.geos_opcodes.specs.declared.opcode.Operand.TheVariants.{Unused, Word, Counter, Slot, Pointer, Number, Shift, Routine as OfRoutine, Label}
use Rattle.geos_explain.specs.Below.{Instr, Routine, FieldsFit, CalleeFits, is_image, Parts, start_of, KeepsLimits}

-- there is a routine r in the image, whose instructions are some of the image's, which is no longer than images may be
pub record HasRoutine (image : Parts) (r : ℕ) (routine : Routine) : Type 0 where
  pub within : r < length image.routines
  pub room : start_of image.routines r + routine.count ≤ length image.points
  pub start : start_of image.routines r ≤ 4096
  pub short : length image.points ≤ 4096
  pub legal : is_image image ≡ true

-- the instruction at a pc is the image's, and the routine is one of its routines
pub record IsPlace (image : Parts) (r : ℕ) (routine : Routine) (pc : ℕ) (i : Instr) : Type 0 where
  pub within : r < length image.routines
  pub room : start_of image.routines r + routine.count ≤ length image.points
  pub start : start_of image.routines r ≤ 4096
  pub there : pc < length image.points
  pub short : length image.points ≤ 4096
  pub here : IfSome (slice_get image.points pc) (λ point. i ≡ point.instr)
  pub fields : FieldsFit i.opcode i
  pub callee : CalleeFits (length image.routines) i
  pub limits : KeepsLimits image i

-- that an operand fits has one proof at most
pub OperandFits-prop : (operand : Operand) (n : ℕ) → IsProp (OperandFits operand n)
OperandFits-prop Unused n = Unit-prop
OperandFits-prop Word n = le_prop
OperandFits-prop Counter n = le_prop
OperandFits-prop Slot n = le_prop
OperandFits-prop Pointer n = le_prop
OperandFits-prop Number n = le_prop
OperandFits-prop Shift n = le_prop
OperandFits-prop OfRoutine n = Unit-prop
OperandFits-prop Label n = Unit-prop
