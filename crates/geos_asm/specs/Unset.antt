-- LOOPs that take from a counter which nothing sets on a way to them.
use Rattle.std.specs.Prelude.{◌≡◌, ◌<◌, ◌↔◌, ℕ, Bool, true, false, ◌&&◌, not, ◌==◌, List, Some, None, slice_get, slice_index}
use Rattle.geos_opcodes.specs.declared.facts.CounterUse.{CounterUse}
use Rattle.geos_opcodes.specs.declared.facts.CounterUse.TheVariants.{SetTo, SetToWord, CountsDown}
use Rattle.geos_opcodes.specs.Facts.{facts}
use Rattle.geos_image.specs.declared.instr.Instr.{Instr}
use Rattle.geos_image.specs.declared.point.Point.{Point}
use Rattle.geos_image.specs.Parts.{Parts, start_of}
use Rattle.geos_source.specs.InstrLines.{instr_lines}
use Rattle.geos_verify.specs.Rules.{has_place}
use Rattle.geos_flow.specs.declared.edge.Edge.{Edge}
use Rattle.geos_flow.specs.declared.search.Heading.TheVariants.{Ahead}
use Rattle.geos_flow.specs.Flow.{step_by, Leads}
use Rattle.geos_flow.specs.Marks.{is_marked}
use Rattle.geos_asm.specs.Assembling.{IsAssembled}
use Rattle.geos_asm.specs.Calls.{HasInstr, line_at}

-- an opcode of this use of counters takes from its own
abbrev pub counts_down : CounterUse → Bool
counts_down CountsDown = true
counts_down _ = false

-- an opcode of this use of counters sets its own
abbrev pub gives : CounterUse → Bool
gives SetTo = true
gives SetToWord = true
gives _ = false

-- the instruction takes from the counter
abbrev pub takes : Instr → ℕ → Bool
takes i k = counts_down (facts i.opcode).counter && i.a == k

-- the instruction sets the counter
abbrev pub sets : Instr → ℕ → Bool
sets i k = gives (facts i.opcode).counter && i.a == k

-- the potential at a pc has a coefficient for the counter that is not 0
unfoldable pub owes_at : Parts → ℕ → ℕ → Bool
owes_at image k pc = elim (slice_get image.points pc) [ None ↦ false | Some point ↦ not (slice_index point.potential.coefficients k == 0) ]

-- an edge starts in the routine with this start and count, its instruction neither sets the counter nor takes from
-- it, and steps are owed for the counter after the edge
unfoldable pub stays_unset : Parts → ℕ → ℕ → ℕ → Edge → ℕ → Bool
stays_unset image start count k edge end = elim (slice_get image.points edge.from) [
  | None ↦ false
  | Some point ↦ has_place start count edge.from && not (takes point.instr k) && not (sets point.instr k) && owes_at image k end
]

-- a path from the start of the routine leads to a pc, and all its edges stay unset
abbrev pub IsUnsetAt : Parts → ℕ → ℕ → ℕ → ℕ → Type 0
IsUnsetAt image start count k pc = Leads (step_by image Ahead (stays_unset image start count k)) start pc

-- exactly these pcs are marked
abbrev pub MarksUnset : Parts → ℕ → ℕ → ℕ → List Bool → Type 0
MarksUnset image start count k marks = (pc : ℕ) → (is_marked marks pc ≡ true) ↔ IsUnsetAt image start count k pc

-- steps are owed for the counter at the start of routine r. A path on which nothing sets the counter or takes from it
-- leads from there to the instruction at a pc, which takes from it.
pub record TakesUnset (image : Parts) (r k pc : ℕ) : Type 0 where
  pub point : Point
  pub has : HasInstr image r pc point
  pub owed : owes_at image k (start_of image.routines r) ≡ true
  pub way : IsUnsetAt image (start_of image.routines r) has.routine.count k pc
  pub does : takes point.instr k ≡ true

-- no instruction of routine r takes from the counter in this way
abbrev pub NoneUnsetOf : Parts → ℕ → ℕ → Type 0
NoneUnsetOf image r k = (pc : ℕ) → TakesUnset image r k pc → ⊥

-- no instruction of routine r takes in this way from any counter
abbrev pub NoneUnsetIn : Parts → ℕ → Type 0
NoneUnsetIn image r = (k : ℕ) → k < 4 → NoneUnsetOf image r k

-- no instruction of the image takes in this way from any counter
abbrev pub NoneUnset : Parts → Type 0
NoneUnset image = (r : ℕ) → NoneUnsetIn image r

-- an instruction on a line of the text takes in this way from the counter
pub record TakesUnsetOn (text : List ℕ) (k line : ℕ) : Type 0 where
  pub image : Parts
  pub assembled : IsAssembled text image
  pub r : ℕ
  pub pc : ℕ
  pub taken : TakesUnset image r k pc
  pub there : line ≡ line_at (instr_lines text) pc
