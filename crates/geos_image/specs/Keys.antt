-- The key places of code: the first pc of each routine, each pc that is the target of an instruction, and each pc
-- after an instruction that never falls through.
use Rattle.std.specs.Prelude.{ℕ, ◌+◌, Bool, true, false, if◌then◌else◌, List, [], ◌∷◌, ◌++◌, replicate, slice_set, slice_index_or, Option, Some, None, slice_get}
use Rattle.geos_opcodes.specs.declared.opcode.Opcode.{Opcode}
use Rattle.geos_opcodes.specs.declared.opcode.Operand.{Operand}
use Rattle.geos_opcodes.specs.declared.opcode.Operand.TheVariants.{Label}
use Rattle.geos_opcodes.specs.declared.facts.Flow.{Flow}
use Rattle.geos_opcodes.specs.declared.facts.Flow.TheVariants.{Jumps, Returns}
use Rattle.geos_opcodes.specs.Facts.{facts, operands_of}
use Rattle.geos_image.specs.declared.instr.Instr.{Instr}
use Rattle.geos_image.specs.declared.row.Row.{Row}
use Rattle.geos_image.specs.declared.routine.Routine.{Routine}
use Rattle.geos_image.specs.declared.point.Point.{Point}
use Rattle.geos_image.specs.Parts.{Parts, instrs_of}
use Rattle.std.specs.Option.{is_some}

-- control may go on to the next instruction
abbrev pub goes_on : Flow → Bool
goes_on Jumps = false
goes_on Returns = false
goes_on _ = true

-- control may go on to the next instruction
abbrev pub falls_through : Opcode → Bool
falls_through opcode = goes_on (facts opcode).flow

-- the operand is the pc of an instruction
abbrev pub is_label : Operand → Bool
is_label Label = true
is_label _ = false

-- control may go to the target
abbrev pub branches : Opcode → Bool
branches opcode = is_label (operands_of opcode).target

-- the pcs at which routines start, if the first one starts at `at`
abbrev pub starts_from : ℕ → List Routine → List ℕ
starts_from at [] = []
starts_from at (r ∷ routines) = at ∷ starts_from (at + r.count) routines

-- the place to which the instruction may lead by its label
abbrev pub target_key : Instr → List ℕ
target_key i = if branches i.opcode then i.target ∷ [] else []

-- the pc after the instruction, if the instruction never falls through
abbrev pub cut_key : ℕ → Instr → List ℕ
cut_key pc i = if falls_through i.opcode then [] else (pc + 1) ∷ []

-- the key places that the instructions from a pc on make
abbrev pub keys_from : ℕ → List Instr → List ℕ
keys_from pc [] = []
keys_from pc (i ∷ instrs) = target_key i ++ (cut_key pc i ++ keys_from (pc + 1) instrs)

-- the flags, with those of the places set
abbrev pub flagged : List ℕ → List Bool → List Bool
flagged [] flags = flags
flagged (place ∷ places) flags = flagged places (slice_set flags place true)

-- a flag for each pc that there may be: the key places are flagged
abbrev pub key_flags : List Routine → List Instr → List Bool
key_flags routines instrs = flagged (keys_from 0 instrs) (flagged (starts_from 0 routines) (replicate 4096 false))

-- there is a row exactly if the flag is set
abbrev pub row_stands : Bool → Option Row → Bool
row_stands true (Some row) = true
row_stands false None = true
row_stands _ _ = false

-- the points with these rows at the places that are flagged, as far as there are rows, and with none elsewhere
abbrev pub with_rows : List Bool → List Point → List Row → List Point
with_rows flags [] rows = []
with_rows [] (point ∷ points) rows = record point { row = None } ∷ with_rows [] points rows
with_rows (false ∷ flags) (point ∷ points) rows = record point { row = None } ∷ with_rows flags points rows
with_rows (true ∷ flags) (point ∷ points) [] = record point { row = None } ∷ with_rows flags points []
with_rows (true ∷ flags) (point ∷ points) (row ∷ rows) = record point { row = Some row } ∷ with_rows flags points rows

-- a row, if its place is flagged
abbrev pub row_where : Bool → Option Row → Option Row
row_where flag row = if flag then row else None

-- the points with the rows that they have at the places that are flagged, and with none elsewhere
abbrev pub kept_rows : List Bool → List Point → List Point
kept_rows flags [] = []
kept_rows [] (point ∷ points) = record point { row = None } ∷ kept_rows [] points
kept_rows (flag ∷ flags) (point ∷ points) = record point { row = row_where flag point.row } ∷ kept_rows flags points

-- the row for a place, if it is flagged and there is one
abbrev pub row_for : Bool → List Row → ℕ → Option Row
row_for true rows next = slice_get rows next
row_for false rows next = None

-- a flag as a number
abbrev pub flag_bit : Bool → ℕ
flag_bit false = 0
flag_bit true = 1

-- how many of so many places are flagged
abbrev pub flag_count : List Bool → List Instr → ℕ
flag_count flags [] = 0
flag_count [] (i ∷ instrs) = 0
flag_count (false ∷ flags) (i ∷ instrs) = flag_count flags instrs
flag_count (true ∷ flags) (i ∷ instrs) = flag_count flags instrs + 1

-- the image in version 2: it has the same rows, but only at its key places
abbrev pub keyed_of : Parts → Parts
keyed_of image = record {
  keyed = true;
  routines = image.routines;
  points =
      kept_rows (key_flags image.routines (instrs_of image.points)) image.points;
}

-- the pc is a key place of the image
abbrev pub is_key : Parts → ℕ → Bool
is_key image pc = slice_index_or (key_flags image.routines (instrs_of image.points)) pc false

-- the image gives a row at the pc
abbrev pub gives : Parts → ℕ → Bool
gives image pc = elim (slice_get image.points pc) [ None ↦ false | Some point ↦ is_some point.row ]
