-- Which images there are.
use Rattle.std.specs.Prelude.{◌≡◌, ◌<◌, ◌≤◌, ℕ, Bool, true, false, ◌&&◌, if◌then◌else◌, replicate, ◌||◌, not, nat_lt, nat_le, nat_eq, ◌==◌, List, [], ◌∷◌, ◌++◌, length, take, drop, position, unwrap_or, slice_index, Option, Some, None}
use Rattle.std.specs.List.{list_all, list_any}
use Rattle.std.specs.Cmp.Lexicographic.{pointwise}
use Rattle.std.specs.Char.{is_ascii_alphabetic, is_ascii_alphanumeric}
use Rattle.geos_image.specs.declared.instr.Instr.{Instr}
use Rattle.geos_image.specs.declared.row.Row.{Row}
use Rattle.geos_image.specs.declared.row.Pointer.{Pointer}
use Rattle.geos_image.specs.declared.row.SlotState.{SlotState}
use Rattle.geos_image.specs.declared.row.SlotState.TheVariants.{Vm}
use Rattle.geos_image.specs.declared.routine.Routine.{Routine}
use Rattle.geos_opcodes.specs.Facts.{operands_of, limit}
use Rattle.geos_image.specs.declared.point.Point.{Point}
use Rattle.geos_image.specs.Parts.{Parts, total_count, instrs_of}
use Rattle.geos_image.specs.Keys.{key_flags, row_stands, with_rows, flag_count}

-- letters, digits and the underscore
unfoldable pub is_name_byte : ℕ → Bool
is_name_byte b = is_ascii_alphanumeric b || b == 95

-- where the text of a padded name ends
abbrev pub text_end : List ℕ → Option ℕ
text_end name = position (λ b. b == 0) name

-- a letter, then letters, digits and underscores, then zeros up to 16 bytes
abbrev pub is_name : List ℕ → Bool
is_name name =
    let len = unwrap_or (text_end name) 16 in
    is_ascii_alphabetic (slice_index name 0) && list_all is_name_byte (take len name) && list_all (λ b. b == 0) (drop len name)

-- a pointer leads into one of the four slots
abbrev pub is_pointer : Option Pointer → Bool
is_pointer None = true
is_pointer (Some p) = nat_lt p.slot 4

-- a row speaks of eight words, four slots, four pointers and six pairs of slots
abbrev pub is_shaped : Row → Bool
is_shaped row = length row.bounds == 8 && length row.slots == 4 && length row.pointers == 4 && length row.pairs == 6

-- the slot is not borrowed from a routine's caller
abbrev pub is_own : SlotState → Bool
is_own (Vm marked borrowed) = not borrowed
is_own _ = true

-- the row has the right shape, its pointers lead into slots, and it has borrowed slots only if `borrows`
abbrev pub is_row : Bool → Row → Bool
is_row borrows row = (borrows || list_all is_own row.slots) && is_shaped row && list_all is_pointer row.pointers

-- each field is below the limit of its operand, in an image with so many routines and
-- instructions
abbrev pub is_instr : ℕ → ℕ → Instr → Bool
is_instr routines instrs i =
    let fields = operands_of i.opcode in
    nat_lt i.a (limit routines instrs fields.a)
    && nat_lt i.b (limit routines instrs fields.b)
    && nat_lt i.c (limit routines instrs fields.c)
    && nat_lt i.d (limit routines instrs fields.d)
    && nat_lt i.imm (limit routines instrs fields.imm)
    && nat_lt i.target (limit routines instrs fields.target)

-- a row that is given is such a one
abbrev pub is_given : Bool → Option Row → Bool
is_given borrows None = true
is_given borrows (Some row) = is_row borrows row

-- the instruction and the row of a point are legal in an image with so many routines and instructions
abbrev pub is_point : Bool → ℕ → ℕ → Point → Bool
is_point borrows routines instrs point = is_instr routines instrs point.instr && is_given borrows point.row

-- the points are legal in each image in which the instructions are
abbrev pub LegalWhere : Bool → List Instr → List Point → Type 0
LegalWhere borrows code points = (routines instrs : ℕ) → list_all (is_instr routines instrs) code ≡ true
    → list_all (is_point borrows routines instrs) points ≡ true

-- some routine has the name
abbrev pub is_named : List ℕ → List Routine → Bool
is_named name routines = list_any (λ r. pointwise nat_eq r.name name) routines

-- a routine is legal after the earlier ones: its name is legal and different from theirs, it has instructions, and
-- its entry and exit rows are legal
abbrev pub is_routine : Bool → List Routine → Routine → Bool
is_routine borrows earlier r =
    is_name r.name
    && not (is_named r.name earlier)
    && nat_lt 0 r.count
    && is_row borrows r.entry
    && is_row borrows r.exit

-- each routine is legal after the earlier ones
abbrev pub are_routines : Bool → List Routine → List Routine → Bool
are_routines borrows earlier [] = true
are_routines borrows earlier (r ∷ routines) = is_routine borrows earlier r && are_routines borrows (earlier ++ r ∷ []) routines

-- exactly the flagged points have rows
abbrev pub rows_stand : List Bool → List Point → Bool
rows_stand flags [] = true
rows_stand [] (point ∷ points) = false
rows_stand (flag ∷ flags) (point ∷ points) = row_stands flag point.row && rows_stand flags points

-- a flag for each pc at which the image gives a row
abbrev pub row_flags : Bool → List Routine → List Point → List Bool
row_flags keyed routines points = if keyed then key_flags routines (instrs_of points) else replicate 4096 true

-- 1 to 32 routines, and a point for each of their instructions, at most 4,096, with the rows that the version
-- requires; slots may be borrowed only if `borrows`
abbrev pub is_formed : Bool → Parts → Bool
is_formed borrows image =
    nat_lt 0 (length image.routines)
    && nat_le (length image.routines) 32
    && are_routines borrows [] image.routines
    && nat_le (length image.points) 4096
    && total_count image.routines == length image.points
    && list_all (is_point borrows (length image.routines) (length image.points)) image.points
    && rows_stand (row_flags image.keyed image.routines image.points) image.points

-- the image is legal; only in version 2 may slots be borrowed
abbrev pub is_image : Parts → Bool
is_image image = is_formed image.keyed image

-- the image that gives these rows at its key places, in their order
abbrev pub keyed_parts : List Routine → List Point → List Row → Parts
keyed_parts routines points rows = record {
  keyed = true;
  routines = routines;
  points =
      with_rows (key_flags routines (instrs_of points)) points rows;
}

-- these make an image: there is a row for each key place, and no more
abbrev pub is_keyed : List Routine → List Point → List Row → Bool
is_keyed routines points rows = flag_count (key_flags routines (instrs_of points)) (instrs_of points) == length rows
    && is_image (keyed_parts routines points rows)

-- routines and instructions that an image may have
pub record IsCode (borrows : Bool) (routines : List Routine) (instrs : List Instr) : Type 0 where
  pub some : 0 < length routines
  pub few : length routines ≤ 32
  pub in_order : are_routines borrows [] routines ≡ true
  pub short : length instrs ≤ 4096
  pub counts : total_count routines ≡ length instrs
  pub fit : list_all (is_instr (length routines) (length instrs)) instrs ≡ true
