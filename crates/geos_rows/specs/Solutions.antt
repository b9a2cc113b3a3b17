-- Which rows hold at the instructions.
use Rattle.std.specs.Prelude.{◌≡◌, ℕ, Bool, true, false, List, length, Some, slice_get}
use Rattle.geos_image.specs.declared.instr.Instr.{Instr}
use Rattle.geos_image.specs.declared.row.Row.{Row}
use Rattle.geos_image.specs.declared.routine.Routine.{Routine}
use Rattle.geos_image.specs.Parts.{Parts, start_of}
use Rattle.geos_verify.specs.Rows.{fits}
use Rattle.geos_verify.specs.Rules.{names_empty_slot}
use Rattle.geos_code.specs.Code.{Edge, IsPcOf, ClosedIn, ForwardIn, instrs_of, edge_row}

-- rows at the instructions of routine r: the entry row implies the first row, and the row after an edge implies the
-- row at its end. No pointer leads into an empty slot, and no edge leaves the routine.
pub record RowsHoldIn (image : Parts) (r : ℕ) (rows : List Row) : Type 0 where
  pub len : length rows ≡ length (instrs_of image)
  pub closed : ClosedIn image r
  pub entry : (routine : Routine) (row : Row) → slice_get image.routines r ≡ Some routine
      → slice_get rows (start_of image.routines r) ≡ Some row → fits routine.entry row ≡ true
  pub edges : (pc to : ℕ) (branch : Bool) (i : Instr) (row next : Row) → IsPcOf image r pc → Edge (instrs_of image) pc branch to i
      → slice_get rows pc ≡ Some row → slice_get rows to ≡ Some next
      → fits (edge_row image i branch row) next ≡ true
  pub clean : (pc : ℕ) (row : Row) → IsPcOf image r pc → slice_get rows pc ≡ Some row → names_empty_slot row ≡ false

-- no rows hold in routine r, or it has loops
abbrev pub NoRowsHoldIn : Parts → ℕ → Type 0
NoRowsHoldIn image r = (want : List Row) → ForwardIn image r → RowsHoldIn image r want → ⊥
