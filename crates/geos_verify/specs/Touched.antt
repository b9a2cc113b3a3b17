-- Which counters a routine touches: those that it names, and those that the routines that it
-- calls touch.
use Rattle.std.specs.Prelude.{◌≡◌, ◌<◌, ℕ, zero, suc, Bool, true, false, ◌&&◌, ◌||◌, ◌==◌, List, [], ◌∷◌, Some, None, length, take, drop, slice_get, slice_index_or}
use Rattle.std.specs.List.{list_any}
use Rattle.geos_opcodes.specs.declared.opcode.Opcode.{Opcode}
use Rattle.geos_opcodes.specs.declared.opcode.Opcode.TheVariants.{Call}
use Rattle.geos_opcodes.specs.declared.facts.CounterUse.{CounterUse}
use Rattle.geos_opcodes.specs.declared.facts.CounterUse.TheVariants.{Untouched}
use Rattle.geos_opcodes.specs.Facts.{facts}
use Rattle.geos_image.specs.declared.instr.Instr.{Instr}
use Rattle.geos_image.specs.declared.point.Point.{Point}
use Rattle.geos_image.specs.Parts.{Parts, start_of}

-- a counter is set, or taken from
abbrev pub is_touched : CounterUse → Bool
is_touched Untouched = false
is_touched _ = true

-- the instruction sets a counter, or takes from it
abbrev pub counts : Opcode → Bool
counts opcode = is_touched (facts opcode).counter

-- the instruction calls a routine
abbrev pub calls : Opcode → Bool
calls Call = true
calls _ = false

-- the points of a routine
abbrev pub points_of : Parts → ℕ → List Point
points_of image r = elim (slice_get image.routines r) [
  | None ↦ []
  | Some routine ↦ take routine.count
      (drop (start_of image.routines r) image.points)
]

-- the instruction names counter k, or calls a routine that touches k according to `touched`
abbrev pub touches_here : (ℕ → Bool) → ℕ → Instr → Bool
touches_here touched k i = (counts i.opcode && i.a == k) || (calls i.opcode && touched i.imm)

-- routine r touches counter k, or one that it reaches by calls does, in a chain of at most so many
-- routines, r among them
abbrev pub touches_within : ℕ → Parts → ℕ → ℕ → Bool
touches_within zero image k r = false
touches_within (suc depth) image k r = list_any (λ point. touches_here (touches_within depth image k) k point.instr) (points_of image r)

-- routine r touches counter k: a chain of calls that comes to no routine twice is no longer
-- than there are routines
abbrev pub touches : Parts → ℕ → ℕ → Bool
touches image k r = touches_within (length image.routines) image k r

-- which of the counters k0 to k3 routine r touches
abbrev pub touched_by : Parts → ℕ → List Bool
touched_by image r = touches image 0 r ∷ touches image 1 r ∷ touches image 2 r ∷ touches image 3 r ∷ []

-- a table says that routine r touches counter k
abbrev pub noted : List (List Bool) → ℕ → ℕ → Bool
noted table k r = slice_index_or (slice_index_or table r []) k false

-- a table says what the routines below r touch
abbrev pub NotesBelow : Parts → List (List Bool) → ℕ → Type 0
NotesBelow image table r = (c k : ℕ) → c < r → k < 4 → noted table k c ≡ touches image k c

-- routine r touches counter k, by what a table says of the routines that it calls
abbrev pub touches_by : Parts → List (List Bool) → ℕ → ℕ → Bool
touches_by image table k r = list_any (λ point. touches_here (noted table k) k point.instr) (points_of image r)

-- which counters routine r touches, by the table
abbrev pub noted_by : Parts → List (List Bool) → ℕ → List Bool
noted_by image table r = touches_by image table 0 r ∷ touches_by image table 1 r ∷ touches_by image table 2 r ∷ touches_by image table 3 r ∷ []
