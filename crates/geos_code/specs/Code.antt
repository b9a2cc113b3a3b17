-- The code of an image, and where control goes in it.
use Rattle.std.specs.Prelude.{◌≡◌, ◌<◌, ◌≤◌, ◌≢◌, ◌⊎◌, ℕ, ◌+◌, Bool, true, false, List, map, Some, slice_get}
use Rattle.geos_opcodes.specs.declared.opcode.Opcode.{Opcode}
use Rattle.geos_opcodes.specs.declared.opcode.Opcode.TheVariants.{Loop}
use Rattle.geos_image.specs.declared.instr.Instr.{Instr}
use Rattle.geos_image.specs.declared.row.Row.{Row}
use Rattle.geos_image.specs.declared.routine.Routine.{Routine}
use Rattle.geos_image.specs.declared.point.Point.{Point}
use Rattle.geos_image.specs.Parts.{Parts, start_of}
use Rattle.geos_verify.specs.Rows.{has_edge, row_along, row_branching}

-- the instruction of a point
abbrev pub instr_of : Point → Instr
instr_of point = point.instr

-- the instructions, by pc
abbrev pub instrs_of : Parts → List Instr
instrs_of image = map instr_of image.points

-- the instruction is a LOOP
abbrev pub is_loop : Opcode → Bool
is_loop Loop = true
is_loop _ = false

-- both have the same routines, with their entry and exit rows and budgets, and the same
-- instructions
pub record SameCode (image other : Parts) : Type 0 where
  pub routines : other.routines ≡ image.routines
  pub instrs : instrs_of other ≡ instrs_of image

-- Edges

-- the pc that the edge leads to
abbrev pub edge_end : ℕ → Instr → Bool → ℕ
edge_end pc i true = i.target
edge_end pc i false = pc + 1

-- the row at the end of the edge
abbrev pub edge_row : Parts → Instr → Bool → Row → Row
edge_row image i true row = row_branching i i.opcode row
edge_row image i false row = row_along image i i.opcode row

-- an edge of the code
pub record Edge (code : List Instr) (pc : ℕ) (branch : Bool) (to : ℕ) (i : Instr) : Type 0 where
  pub read : slice_get code pc ≡ Some i
  pub has : has_edge i branch ≡ true
  pub leads : edge_end pc i branch ≡ to

-- Routines

-- the pc is one of routine r
pub record IsPcOf (image : Parts) (r pc : ℕ) : Type 0 where
  pub above : start_of image.routines r ≤ pc
  pub below : pc < start_of image.routines (r + 1)

-- no edge leaves routine r
abbrev pub ClosedIn : Parts → ℕ → Type 0
ClosedIn image r = (pc to : ℕ) (branch : Bool) (i : Instr) → IsPcOf image r pc → Edge (instrs_of image) pc branch to i
    → to < start_of image.routines (r + 1)

-- the edge to the target at a pc, if it stays in routine r, leads ahead
abbrev pub TargetAhead : Parts → ℕ → ℕ → Type 0
TargetAhead image r pc = (to : ℕ) (i : Instr) → IsPcOf image r to → Edge (instrs_of image) pc true to i → pc < to

-- Code without loops

-- an edge of routine r leads to the pc
pub record EnteredIn (image : Parts) (r to : ℕ) : Type 0 where
  pub pc : ℕ
  pub within : IsPcOf image r pc
  pub branch : Bool
  pub i : Instr
  pub edge : Edge (instrs_of image) pc branch to i

-- routine r has no LOOP; each target lies ahead; and each instruction but the first has an edge of the routine into it
pub record ForwardIn (image : Parts) (r : ℕ) : Type 0 where
  pub no_loop : (pc : ℕ) (i : Instr) → IsPcOf image r pc → slice_get (instrs_of image) pc ≡ Some i → i.opcode ≢ Loop
  pub ahead : (pc to : ℕ) (branch : Bool) (i : Instr) → IsPcOf image r pc → Edge (instrs_of image) pc branch to i → pc < to
  pub entered : (pc : ℕ) (i : Instr) → IsPcOf image r pc → slice_get (instrs_of image) pc ≡ Some i
      → (pc ≡ start_of image.routines r) ⊎ EnteredIn image r pc

-- some edge leads to the pc
pub record Entered (code : List Instr) (to : ℕ) : Type 0 where
  pub pc : ℕ
  pub branch : Bool
  pub i : Instr
  pub edge : Edge code pc branch to i

-- a routine begins at the pc
pub record RoutineBegins (routines : List Routine) (pc : ℕ) : Type 0 where
  pub r : ℕ
  pub routine : Routine
  pub there : slice_get routines r ≡ Some routine
  pub start : pc ≡ start_of routines r

-- no LOOP; each target lies ahead; and each instruction but a routine's first has an edge into it
pub record Forward (image : Parts) : Type 0 where
  pub no_loop : (pc : ℕ) (i : Instr) → slice_get (instrs_of image) pc ≡ Some i → i.opcode ≢ Loop
  pub ahead : (pc to : ℕ) (branch : Bool) (i : Instr) → Edge (instrs_of image) pc branch to i → pc < to
  pub entered : (pc : ℕ) (i : Instr) → slice_get (instrs_of image) pc ≡ Some i → RoutineBegins image.routines pc ⊎ Entered (instrs_of image) pc
