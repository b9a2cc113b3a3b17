-- The listing of an image.
use Rattle.std.specs.Prelude.{ℕ, ◌+◌, Bool, true, false, List, [], ◌++◌, length, slice_get, codes, decimal}
use Rattle.std.specs.Option.{option_map_or}
use Rattle.geos_image.specs.declared.routine.Routine.{Routine}
use Rattle.geos_image.specs.Parts.{Parts, start_of}
use Rattle.geos_listing.specs.Rows.{texts_below, row_line}
use Rattle.geos_listing.specs.Instrs.{name_of, label_line, instr_line}

-- the word of a public routine
abbrev pub public_text : Bool → List ℕ
public_text false = []
public_text true = codes " public"

-- a routine's name, whether it is public, and its budget
abbrev pub routine_line : Routine → List ℕ
routine_line r = codes "routine " ++ name_of r ++ public_text r.public ++ codes " budget " ++ decimal r.budget ++ codes "\n"

-- the instruction at a pc, after its label if another instruction leads to it
abbrev pub place_text : Parts → ℕ → List ℕ
place_text image pc = label_line image.points pc ++ option_map_or (λ point. instr_line image.routines point.instr) (slice_get image.points pc) []

-- a routine: its line, its entry row and its exit row, and its instructions from a pc
abbrev pub routine_text : Parts → ℕ → Routine → List ℕ
routine_text image start r =
    routine_line r ++ row_line (codes "in") r.entry ++ row_line (codes "out") r.exit ++ texts_below r.count (λ k. place_text image (start + k))

-- the same of the routine with a number, if there is one
abbrev pub listed_routine : Parts → ℕ → List ℕ
listed_routine image r = option_map_or (routine_text image (start_of image.routines r)) (slice_get image.routines r) []

-- the routines one after another
abbrev pub listing : Parts → List ℕ
listing image = texts_below (length image.routines) (λ r. listed_routine image r)
