-- Which routines no budget can serve; which counters must still pay at the entry although no instruction sets them
-- before a LOOP takes from them; and which counters are set to an unbounded word.
use Rattle.std.specs.Prelude.{◌≡◌, ℕ, Bool, true, false, ◌&&◌, not, nat_lt, Option, Some, None, slice_get, ◌==◌, slice_index}
use Rattle.geos_explain.specs.Below.{Instr, Point, Row, KnownPlace, places, bound, call_misfits, calls, CounterUse, SetTo, SetToWord, CountsDown, facts, Parts, Edge, Ahead, step_by, Leads}
use Rattle.geos_explain.specs.Places.{Place, first_of, is_inside}
use Rattle.geos_explain.specs.Since.{IsInside}
use Rattle.geos_explain.specs.Led.{leads}

-- the instruction takes from the counter
abbrev pub takes : CounterUse → Instr → ℕ → Bool
takes CountsDown i k = i.a == k
takes _ i k = false

-- the instruction sets the counter
abbrev pub gives : CounterUse → Instr → ℕ → Bool
gives SetTo i k = i.a == k
gives SetToWord i k = i.a == k
gives _ i k = false

-- the counter still pays at a pc
unfoldable pub pays_at : Parts → ℕ → ℕ → Bool
pays_at image k pc = elim (slice_get image.points pc) [ None ↦ false | Some point ↦ not (slice_index point.potential.coefficients k == 0) ]

-- an instruction neither takes from the counter nor sets it
abbrev pub leaves_alone : Instr → ℕ → Bool
leaves_alone i k = not (takes (facts i.opcode).counter i k) && not (gives (facts i.opcode).counter i k)

-- an edge of the place's routine whose instruction neither takes from the counter nor sets it, and at whose end the
-- counter still pays
unfoldable pub stays_unset : Place → ℕ → Edge → ℕ → Bool
stays_unset place k edge end = elim (slice_get place.image.points edge.from) [
  | None ↦ false
  | Some point ↦ is_inside place edge.from && leaves_alone point.instr k && pays_at place.image k end
]

-- whether a path along these edges leads from the place to a pc
abbrev pub is_unset_at : Place → ℕ → ℕ → Bool
is_unset_at place k pc = leads place.image Ahead (stays_unset place k) place.pc pc

-- an instruction takes from the counter, and a path along these edges leads to it from the place
unfoldable pub takes_at : Place → ℕ → ℕ → Bool
takes_at place k from = elim (slice_get place.image.points from) [
  | None ↦ false
  | Some point ↦ is_unset_at place k from && takes (facts point.instr.opcode).counter point.instr k
]

-- the first instruction of the routine that takes from the counter and that such a path reaches
abbrev pub unset_loop : Place → ℕ → Option ℕ
unset_loop place k = first_of place (takes_at place k) place.routine.count

-- The same statements as relations on paths

-- a path leads from the place to an instruction of its routine that takes from the counter. No instruction on the
-- path sets the counter or takes from it, and the counter still pays everywhere on it
pub record IsTakenUnset (place : Place) (k from : ℕ) : Type 0 where
  pub inside : IsInside place from
  pub point : Point
  pub there : slice_get place.image.points from ≡ Some point
  pub does : takes (facts point.instr.opcode).counter point.instr k ≡ true
  pub way : Leads (step_by place.image Ahead (stays_unset place k)) place.pc from

-- the instruction that `unset_loop` returns takes from a counter that nothing sets on some path to it
abbrev pub WhatIsSaidOfCountersHolds : Type 0
WhatIsSaidOfCountersHolds = (place : Place) (k from : ℕ) → unset_loop place k ≡ Some from → IsTakenUnset place k from

-- an instruction calls a routine that does not come earlier in the image than the place's routine
abbrev pub calls_on : Place → Instr → Bool
calls_on place i = calls i.opcode && not (nat_lt i.imm place.r)

-- the same of the instruction at a pc
unfoldable pub calls_on_at : Place → ℕ → Bool
calls_on_at place from = elim (slice_get place.image.points from) [ None ↦ false | Some point ↦ calls_on place point.instr ]

-- the first such instruction of the routine
abbrev pub calling_on : Place → Option ℕ
calling_on place = first_of place (calls_on_at place) place.routine.count

-- an instruction sets a counter to a word for which the row has no bound
abbrev pub sets_to_any : CounterUse → Instr → Row → Bool
sets_to_any SetToWord i row = bound row i.b == 65535
sets_to_any _ i row = false

-- the same of the instruction at a pc
unfoldable pub sets_to_any_at : Place → ℕ → Bool
sets_to_any_at place from = elim (slice_get (places place.image) from) [
  | None ↦ false
  | Some known ↦ sets_to_any (facts known.instr.opcode).counter known.instr known.row
]

-- the first such instruction of the routine
abbrev pub setting_to_any : Place → Option ℕ
setting_to_any place = first_of place (sets_to_any_at place) place.routine.count

-- The same statements as relations

-- the instruction at a pc of the routine is a call that the rule on calls refuses, for every row and every budget
pub record IsNeverServed (place : Place) (from : ℕ) : Type 0 where
  pub inside : IsInside place from
  pub point : Point
  pub there : slice_get place.image.points from ≡ Some point
  pub refused : (row : Row) → call_misfits place.image place.r point.instr row ≡ true

-- the instruction at a pc of the routine sets a counter to a word for which the row has no bound
pub record IsSetToAny (place : Place) (from : ℕ) : Type 0 where
  pub inside : IsInside place from
  pub known : KnownPlace
  pub there : slice_get (places place.image) from ≡ Some known
  pub sets : (facts known.instr.opcode).counter ≡ SetToWord
  pub any : bound known.row known.instr.b ≡ 65535

-- the instruction that `setting_to_any` returns sets a counter to a word without a bound
abbrev pub WhatIsSaidOfWordsHolds : Type 0
WhatIsSaidOfWordsHolds = (place : Place) (from : ℕ) → setting_to_any place ≡ Some from → IsSetToAny place from

-- the call that `calling_on` returns is refused, so no budget serves the routine
abbrev pub WhatIsSaidOfBudgetsHolds : Type 0
WhatIsSaidOfBudgetsHolds = (place : Place) (from : ℕ) → calling_on place ≡ Some from → IsNeverServed place from
