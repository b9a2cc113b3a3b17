-- Reading an image from bytes. A failure has the offset of the first field that is cut or breaks its rule.
use Rattle.std.specs.Prelude.{◌≡◌, ℕ, zero, suc, ◌+◌, ◌*◌, ◌/◌, ◌%◌, Bool, true, false, ◌&&◌, ◌||◌, not, nat_lt, nat_le, nat_eq, ◌==◌, if◌then◌else◌, List, [], ◌∷◌, ◌++◌, length, take, drop, Option, Some, None, Result, Ok, Err, slice_index, find}
use Rattle.std.specs.Cmp.Lexicographic.{pointwise}
use Rattle.std.specs.Int.{w16, w32, from_le_bytes}
use Rattle.geos_image.specs.declared.error.ReadError.{ReadError}
use Rattle.geos_image.specs.declared.error.ReadError.TheVariants.{Memory, BadImage}
use Rattle.geos_image.specs.declared.instr.Instr.{Instr}
use Rattle.geos_image.specs.declared.row.Row.{Row}
use Rattle.geos_image.specs.declared.row.Pointer.{Pointer}
use Rattle.geos_image.specs.declared.row.SlotState.{SlotState}
use Rattle.geos_image.specs.declared.row.SlotState.TheVariants.{Empty, Mem, Vm, Db}
use Rattle.geos_image.specs.declared.potential.Potential.{Potential}
use Rattle.geos_image.specs.declared.routine.Routine.{Routine}
use Rattle.geos_opcodes.specs.declared.opcode.Opcode.{Opcode}
use Rattle.geos_opcodes.specs.Facts.{opcode_of, operands_of, limit}
use Rattle.geos_image.specs.declared.point.Point.{Point}
use Rattle.geos_image.specs.Parts.{Parts, total_count}
use Rattle.geos_image.specs.Keys.{key_flags, with_rows, flag_count}
use Rattle.geos_image.specs.Legal.{is_own, is_name, is_named}
use Rattle.geos_image.specs.Spelling.{magic, slot_code}

-- passes what was read to the next reader, or returns the first fault
infixl 10 ◌>>=◌
abbrev pub ◌>>=◌ : {A B : Type 0} → Result A ℕ → (A → Result B ℕ) → Result B ℕ
(Ok x) >>= f = f x
(Err at) >>= f = Err at

-- the value that there is, or a fault at the offset
abbrev pub or_fault : {A : Type 0} → ℕ → Option A → Result A ℕ
or_fault at (Some x) = Ok x
or_fault at None = Err at

-- a fault at the offset, unless the test holds
abbrev pub guard : ℕ → Bool → Result (Unit {0}) ℕ
guard at true = Ok tt
guard at false = Err at

-- Numbers at an offset; where they are cut, the fault is there

-- the byte at an offset
abbrev pub byte_at : List ℕ → ℕ → Result ℕ ℕ
byte_at bytes at = if nat_lt at (length bytes) then Ok (slice_index bytes at) else Err at

-- the 16 bits at an offset, the low byte first
abbrev pub word_at : List ℕ → ℕ → Result ℕ ℕ
word_at bytes at = if nat_lt (at + 1) (length bytes)
    then Ok (from_le_bytes w16 (slice_index bytes at ∷ slice_index bytes (at + 1) ∷ []))
    else Err at

-- the 32 bits at an offset, the low byte first
abbrev pub long_at : List ℕ → ℕ → Result ℕ ℕ
long_at bytes at = if nat_lt (at + 3) (length bytes)
    then Ok (from_le_bytes w32 (slice_index bytes at ∷ slice_index bytes (at + 1) ∷ slice_index bytes (at + 2) ∷ slice_index bytes (at + 3) ∷ []))
    else Err at

-- a number that breaks its rule is a fault at the offset of the number
abbrev pub below : ℕ → ℕ → Result ℕ ℕ → Result ℕ ℕ
below limit at number = do
  n ← number
  in_range ← guard at (nat_lt n limit)
  Ok n

-- a byte below a limit
abbrev pub byte_below : ℕ → List ℕ → ℕ → Result ℕ ℕ
byte_below limit bytes at = below limit at (byte_at bytes at)

-- a word below a limit
abbrev pub word_below : ℕ → List ℕ → ℕ → Result ℕ ℕ
word_below limit bytes at = below limit at (word_at bytes at)

-- things of one width, one after another
abbrev pub items_at : {A : Type 0} → (ℕ → Result A ℕ) → ℕ → ℕ → ℕ → Result (List A) ℕ
items_at read width zero at = Ok []
items_at read width (suc n) at = do
  first ← read at
  others ← items_at read width n (at + width)
  Ok (first ∷ others)

-- the instruction with the opcode in an image with so many routines and instructions: each field is
-- below its limit
unfoldable pub fields_at : ℕ → ℕ → Opcode → List ℕ → ℕ → Result Instr ℕ
fields_at routines instrs opcode bytes at = do
  a ← byte_below (limit routines instrs (operands_of opcode).a) bytes (at + 1)
  b ← byte_below (limit routines instrs (operands_of opcode).b) bytes (at + 2)
  c ← byte_below (limit routines instrs (operands_of opcode).c) bytes (at + 3)
  d ← byte_below (limit routines instrs (operands_of opcode).d) bytes (at + 4)
  unused ← byte_below 1 bytes (at + 5)
  imm ← word_below (limit routines instrs (operands_of opcode).imm) bytes (at + 6)
  target ← word_below (limit routines instrs (operands_of opcode).target) bytes (at + 8)
  Ok (record { opcode = opcode; a = a; b = b; c = c; d = d; imm = imm; target = target })

-- an instruction: its opcode, and its fields
unfoldable pub instr_at : ℕ → ℕ → List ℕ → ℕ → Result Instr ℕ
instr_at routines instrs bytes at = do
  code ← byte_at bytes at
  opcode ← or_fault at (opcode_of code)
  fields_at routines instrs opcode bytes at

-- every state of a slot
abbrev pub slot_states : List SlotState
slot_states = Empty ∷ Mem ∷ Vm false false ∷ Vm true false ∷ Db false ∷ Db true ∷ Vm false true ∷ Vm true true ∷ []

-- the slot state that a byte encodes; a borrowed state only if `borrows`
abbrev pub slot_of : Bool → ℕ → Option SlotState
slot_of borrows code = find (λ state. slot_code state == code && (borrows || is_own state)) slot_states

-- the state of a slot
unfoldable pub slot_at : Bool → List ℕ → ℕ → Result SlotState ℕ
slot_at borrows bytes at = do
  code ← byte_at bytes at
  or_fault at (slot_of borrows code)

-- a pointer: its slot, 0, and the least length; slot 255 with length 0 is a stale one
unfoldable pub pointer_at : List ℕ → ℕ → Result (Option Pointer) ℕ
pointer_at bytes at = do
  slot ← byte_at bytes at
  known ← guard at (nat_lt slot 4 || slot == 255)
  unused ← byte_below 1 bytes (at + 1)
  least ← word_below (if slot == 255 then 1 else 65536) bytes (at + 2)
  Ok (if nat_lt slot 4 then Some (record { slot = slot; least = least }) else None)

-- the pairs of a byte, the lowest bit first
abbrev pub pairs_of : ℕ → List Bool
pairs_of n = (n % 2 == 1) ∷ (n / 2 % 2 == 1) ∷ (n / 4 % 2 == 1) ∷ (n / 8 % 2 == 1) ∷ (n / 16 % 2 == 1) ∷ (n / 32 % 2 == 1) ∷ []

-- a row: eight bounds, four slots, four pointers, the pairs, and 0; slots may be borrowed only if `borrows`
unfoldable pub row_at : Bool → List ℕ → ℕ → Result Row ℕ
row_at borrows bytes at = do
  bounds ← items_at (word_at bytes) 2 8 at
  slots ← items_at (slot_at borrows bytes) 1 4 (at + 16)
  pointers ← items_at (pointer_at bytes) 4 4 (at + 20)
  pairs ← byte_below 64 bytes (at + 36)
  unused ← byte_below 1 bytes (at + 37)
  Ok (record { bounds = bounds; slots = slots; pointers = pointers; pairs = pairs_of pairs })

-- a potential: the constant and four coefficients
unfoldable pub potential_at : List ℕ → ℕ → Result Potential ℕ
potential_at bytes at = do
  constant ← long_at bytes at
  coefficients ← items_at (long_at bytes) 4 4 (at + 4)
  Ok (record { constant = constant; coefficients = coefficients })

-- 16 bytes that are a name, and no earlier routine's
unfoldable pub name_at : List Routine → List ℕ → ℕ → Result (List ℕ) ℕ
name_at earlier bytes at =
    let name = take 16 (drop at bytes) in
    if nat_le (at + 16) (length bytes) && is_name name && not (is_named name earlier) then Ok name else Err at

-- how many instructions a routine has: at least one, and no more than there is room for
unfoldable pub count_at : List Routine → List ℕ → ℕ → Result ℕ ℕ
count_at earlier bytes at = do
  count ← word_at bytes at
  in_range ← guard at (nat_lt 0 count && nat_le (total_count earlier + count) 4096)
  Ok count

-- a routine that follows the earlier ones
unfoldable pub routine_at : Bool → List Routine → List ℕ → ℕ → Result Routine ℕ
routine_at borrows earlier bytes at = do
  name ← name_at earlier bytes at
  public ← byte_below 2 bytes (at + 16)
  unused ← byte_below 1 bytes (at + 17)
  count ← count_at earlier bytes (at + 18)
  budget ← long_at bytes (at + 20)
  entry ← row_at borrows bytes (at + 24)
  exit ← row_at borrows bytes (at + 62)
  Ok (record { name = name; public = public == 1; count = count; budget = budget; entry = entry; exit = exit })

-- n more routines, which follow the earlier ones
unfoldable pub routines_at : Bool → List ℕ → ℕ → ℕ → List Routine → Result (List Routine) ℕ
routines_at borrows bytes zero at earlier = Ok earlier
routines_at borrows bytes (suc n) at earlier = do
  r ← routine_at borrows earlier bytes at
  routines_at borrows bytes n (at + 100) (earlier ++ r ∷ [])

-- the row and the potential of an instruction, in version 1
unfoldable pub entry_at : List ℕ → ℕ → Result (Row × Potential) ℕ
entry_at bytes at = do
  row ← row_at false bytes at
  potential ← potential_at bytes (at + 38)
  Ok (row, potential)

-- `GRT1` and the version, 1 or 2; then the number of routines. Whether the version is 2, and that number
unfoldable pub header_at : List ℕ → Result (Bool × ℕ) ℕ
header_at bytes = do
  magic ← guard 0 (nat_le 4 (length bytes) && pointwise nat_eq (take 4 bytes) magic)
  version ← word_at bytes 4
  known ← guard 4 (version == 1 || version == 2)
  routines ← word_at bytes 6
  in_range ← guard 6 (nat_lt 0 routines && nat_le routines 32)
  Ok (version == 2, routines)

-- the instructions, each with the row and the potential that stand for it
unfoldable pub points_at : List ℕ → List Instr → ℕ → Result (List Point) ℕ
points_at bytes [] at = Ok []
points_at bytes (i ∷ instrs) at = do
  entry ← entry_at bytes at
  others ← points_at bytes instrs (at + 58)
  Ok (record { instr = i; row = Some entry.0; potential = entry.1 } ∷ others)

-- the instructions, each with the potential that stands for it, and no row
unfoldable pub bare_points_at : List ℕ → List Instr → ℕ → Result (List Point) ℕ
bare_points_at bytes [] at = Ok []
bare_points_at bytes (i ∷ instrs) at = do
  potential ← potential_at bytes at
  others ← bare_points_at bytes instrs (at + 20)
  Ok (record { instr = i; row = None; potential = potential } ∷ others)

-- version 1: a row and a potential for each instruction, from an offset to the end of the bytes
unfoldable pub whole_at : List ℕ → List Routine → List Instr → ℕ → Result Parts ℕ
whole_at bytes routines instrs at = do
  points ← points_at bytes instrs at
  ended ← guard (at + 58 * length instrs) (length bytes == at + 58 * length instrs)
  Ok (record { keyed = false; routines = routines; points = points })

-- version 2: a potential for each instruction, then the rows of the key places, to the end of the bytes
unfoldable pub keyed_at : List ℕ → List Routine → List Instr → ℕ → Result Parts ℕ
keyed_at bytes routines instrs at =
    let flags = key_flags routines instrs in
    let rows_from = at + 20 * length instrs in
    let end = rows_from + 38 * flag_count flags instrs in
    (bare_points_at bytes instrs at >>= λ points.
    items_at (row_at true bytes) 38 (flag_count flags instrs) rows_from >>= λ rows.
    guard end (length bytes == end) >>= λ ended.
    Ok (record { keyed = true; routines = routines; points = with_rows flags points rows }))

-- either, by the version
abbrev pub rest_at : Bool → List ℕ → List Routine → List Instr → ℕ → Result Parts ℕ
rest_at false bytes routines instrs at = whole_at bytes routines instrs at
rest_at true bytes routines instrs at = keyed_at bytes routines instrs at

-- the image that the bytes encode
unfoldable pub image_at : List ℕ → Result Parts ℕ
image_at bytes = do
  head ← header_at bytes
  routines ← routines_at head.0 bytes head.1 8 []
  instrs ← items_at (instr_at head.1 (total_count routines) bytes) 10 (total_count routines) (8 + 100 * head.1)
  rest_at head.0 bytes routines instrs (8 + 100 * head.1 + 10 * total_count routines)

-- reading fails with this error: the offset is that of the fault in the bytes, or memory ran out
abbrev pub Fails : {Y : Type 0} → ReadError → Result Y ℕ → Type 0
Fails Memory read = Unit {0}
Fails (BadImage at) read = read ≡ Err at

-- the function returns what reading returns: the value, as `view` sees it, or the fault
abbrev pub Gives : {X Y : Type 0} → (X → Y) → Result X ReadError → Result Y ℕ → Type 0
Gives view (Ok x) read = read ≡ Ok (view x)
Gives view (Err e) read = Fails e read

-- the function writes what reading returns to its place, or returns the fault
abbrev pub Puts : {X Y : Type 0} → Result X ℕ → Y → Result Y ℕ → Type 0
Puts (Ok done) place read = read ≡ Ok place
Puts (Err at) place read = read ≡ Err at
