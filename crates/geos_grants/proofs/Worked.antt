-- Worked examples, computed.
use Rattle.std.proofs.Common.{◌≡◌, ℕ, true, false, Some, None, [], ◌∷◌, refl}
use Rattle.geos_opcodes.specs.declared.opcode.Opcode.{Opcode}
use Rattle.geos_opcodes.specs.declared.opcode.Opcode.TheVariants as op
use Rattle.geos_image.specs.declared.instr.Instr.{Instr}
use Rattle.geos_image.specs.declared.point.Point.{Point}
use Rattle.geos_image.specs.declared.routine.Routine.{Routine}
use Rattle.geos_image.specs.declared.row.Row.{Row}
use Rattle.geos_image.specs.declared.row.SlotState.{SlotState}
use Rattle.geos_image.specs.declared.row.SlotState.TheVariants.{Empty, Mem, Vm, Db}
use Rattle.geos_image.specs.Open.{open_row}
use Rattle.geos_image.specs.Parts.{Parts}
use Rattle.geos_grants.specs.declared.effect.Effect.TheVariants.{Output, ReadsLent, ChangesLent, Memory, LocksByHandle, ChangesFile, Map, Commits}
use Rattle.geos_grants.specs.Effects.{does}
use Rattle.geos_grants.specs.Routines.{has_effect}

-- an instruction whose operands a and b are these
abbrev instr : Opcode → ℕ → ℕ → ℕ → Instr
instr opcode a b imm = record { opcode = opcode; a = a; b = b; c = 0; d = 0; imm = imm; target = 0 }

-- slot 0 holds this, and pointer 0 leads into it
abbrev row : SlotState → Row
row state = record open_row { slots = state ∷ Empty ∷ Empty ∷ Empty ∷ []; pointers = Some (record { slot = 0; least = 2 }) ∷ None ∷ None ∷ None ∷ [] }

-- a store into a lent block changes that block, and nothing else
pub store-lent : does (ChangesLent 0) (instr op.Stw 1 0 0) (row (Vm true true)) ≡ true
store-lent = refl

pub store-lent_slot : does (ChangesLent 1) (instr op.Stw 1 0 0) (row (Vm true true)) ≡ false
store-lent_slot = refl

pub store-lent_file : does ChangesFile (instr op.Stw 1 0 0) (row (Vm true true)) ≡ false
store-lent_file = refl

-- into a block that the routine has locked itself, it changes the file
pub store-own : does ChangesFile (instr op.Stw 1 0 0) (row (Vm true false)) ≡ true
store-own = refl

pub store-group : does ChangesFile (instr op.Stw 1 0 0) (row (Db true)) ≡ true
store-group = refl

-- and into one of global memory, that
pub store-memory : does Memory (instr op.Stw 1 0 0) (row Mem) ≡ true
store-memory = refl

-- a load changes nothing
pub load-lent : does (ReadsLent 0) (instr op.Ldw 1 0 0) (row (Vm false true)) ≡ true
load-lent = refl

pub load-changes : does (ChangesLent 0) (instr op.Ldw 1 0 0) (row (Vm false true)) ≡ false
load-changes = refl

-- a mark is a change
pub mark-lent : does (ChangesLent 0) (instr op.Vdirty 0 0 0) (row (Vm false true)) ≡ true
mark-lent = refl

-- a block that is freed may be mapped
pub free-maps : does Map (instr op.Vfree 1 0 0) open_row ≡ true
free-maps = refl

-- making a block locks none by its handle
pub make-locks : does LocksByHandle (instr op.Mnew 0 1 0) open_row ≡ false
make-locks = refl

-- going back to the saved directory commits, and changes the file and the maps
pub revert-changes : does ChangesFile (instr op.Vrevert 0 0 0) open_row ≡ true
revert-changes = refl

-- a routine with so many instructions
abbrev routine : ℕ → Routine
routine count = record { name = []; public = true; entry = open_row; exit = open_row; budget = 9; count = count }

abbrev point : Instr → Point
point i = record { instr = i; row = Some open_row; potential = record { constant = 9; coefficients = 0 ∷ 0 ∷ 0 ∷ 0 ∷ [] } }

-- routine 0 saves; routine 1 outputs, and calls it
abbrev image : Parts
image = record {
  keyed = false;
  routines = routine 2 ∷ routine 3 ∷ [];
  points =
      point (instr op.Vsave 0 0 0)
      ∷ point (instr op.Ret 0 0 0)
      ∷ point (instr op.Out 0 0 0)
      ∷ point (instr op.Call 0 0 0)
      ∷ point (instr op.Ret 0 0 0)
      ∷ [];
}

pub saves : has_effect image Commits 0 ≡ true
saves = refl

pub saves-called : has_effect image Commits 1 ≡ true
saves-called = refl

pub outputs-not : has_effect image Output 0 ≡ false
outputs-not = refl

pub maps-not : has_effect image Map 1 ≡ false
maps-not = refl
