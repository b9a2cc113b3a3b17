-- The one spelling of each image.
use Rattle.std.specs.Prelude.{ℕ, ◌+◌, ◌*◌, Bool, true, false, List, [], ◌∷◌, ◌++◌, length, map, Option, Some, None}
use Rattle.std.specs.List.{flat_map}
use Rattle.std.specs.Int.{w16, w32, to_le_bytes}
use Rattle.geos_image.specs.declared.instr.Instr.{Instr}
use Rattle.geos_image.specs.declared.row.Row.{Row}
use Rattle.geos_image.specs.declared.row.Pointer.{Pointer}
use Rattle.geos_image.specs.declared.row.SlotState.{SlotState}
use Rattle.geos_image.specs.declared.row.SlotState.TheVariants.{Empty, Mem, Vm, Db}
use Rattle.geos_image.specs.declared.potential.Potential.{Potential}
use Rattle.geos_image.specs.declared.routine.Routine.{Routine}
use Rattle.geos_opcodes.specs.Facts.{code_of}
use Rattle.geos_image.specs.declared.point.Point.{Point}
use Rattle.geos_image.specs.Parts.{Parts}

-- `GRT1`
abbrev pub magic : List ℕ
magic = 0x47 ∷ 0x52 ∷ 0x54 ∷ 0x31 ∷ []

-- 16 bits, the low byte first
abbrev pub word : ℕ → List ℕ
word n = to_le_bytes w16 n

-- 32 bits, the low byte first
abbrev pub long : ℕ → List ℕ
long n = to_le_bytes w32 n

-- a truth value as a byte
abbrev pub flag : Bool → ℕ
flag false = 0
flag true = 1

-- opcode, a, b, c, d, 0, then the words imm and target
abbrev pub instr : Instr → List ℕ
instr i = (code_of i.opcode ∷ i.a ∷ i.b ∷ i.c ∷ i.d ∷ 0 ∷ []) ++ word i.imm ++ word i.target

-- the byte of a slot's state: one more where it is marked, four more where it is borrowed
abbrev pub slot_code : SlotState → ℕ
slot_code Empty = 0
slot_code Mem = 1
slot_code (Vm marked borrowed) = 2 + flag marked + 4 * flag borrowed
slot_code (Db marked) = 4 + flag marked

-- slot, 0, then the word of the least length; a stale pointer is slot 255 with length 0
abbrev pub pointer : Option Pointer → List ℕ
pointer None = 255 ∷ 0 ∷ word 0
pointer (Some p) = p.slot ∷ 0 ∷ word p.least

-- a bit for each pair, the first one lowest
abbrev pub pairs_byte : List Bool → ℕ
pairs_byte [] = 0
pairs_byte (b ∷ pairs) = flag b + 2 * pairs_byte pairs

-- eight bounds, four slots, four pointers, the pairs and 0
abbrev pub row : Row → List ℕ
row r = flat_map word r.bounds ++ map slot_code r.slots ++ flat_map pointer r.pointers ++ pairs_byte r.pairs ∷ 0 ∷ []

-- the constant, then the four coefficients
abbrev pub potential : Potential → List ℕ
potential p = long p.constant ++ flat_map long p.coefficients

-- name, public, 0, count, budget, entry and exit
abbrev pub routine : Routine → List ℕ
routine r = r.name ++ (flag r.public ∷ 0 ∷ []) ++ word r.count ++ long r.budget ++ row r.entry ++ row r.exit

-- the version: 2 if rows are given only at key places
abbrev pub version : Bool → ℕ
version false = 1
version true = 2

-- a row, where one is given
abbrev pub given : Option Row → List ℕ
given None = []
given (Some r) = row r

-- the bytes of the row and the potential of a point
abbrev pub told : Point → List ℕ
told point = given point.row ++ potential point.potential

-- in version 1 a row and a potential for each point; in version 2 the potentials, then the rows that are given
abbrev pub rest : Bool → List Point → List ℕ
rest false points = flat_map told points
rest true points = flat_map (λ (point : Point). potential point.potential) points ++ flat_map (λ (point : Point). given point.row) points

-- `GRT1`, the version, the number of routines, the routines, the instructions, and the rows and potentials
abbrev pub spelling : Parts → List ℕ
spelling image =
    magic ++ word (version image.keyed) ++ word (length image.routines)
    ++ flat_map routine image.routines
    ++ flat_map (λ point. instr point.instr) image.points
    ++ rest image.keyed image.points
