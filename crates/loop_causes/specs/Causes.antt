-- The causes why no rows or no numbers of steps are found for a routine, and what each one says.
use Rattle.std.specs.Prelude.{◌≡◌, ◌≢◌, ◌≤◌, ◌+◌, ℕ, Bool, ◌&&◌, List, [], ◌∷◌, true, false, ◌==◌, Option, None, Some}
use Rattle.geos_opcodes.specs.declared.opcode.Opcode.{Opcode}
use Rattle.geos_opcodes.specs.declared.opcode.Opcode.TheVariants.{Setk, Setkw, Loop}
use Rattle.geos_image.specs.declared.instr.Instr.{Instr}
use Rattle.geos_image.specs.declared.row.Row.{Row}
use Rattle.geos_image.specs.Parts.{Parts}
use Rattle.geos_verify.specs.Rows.{bound}
use Rattle.geos_code.specs.Code.{IsPcOf}
use Rattle.geos_code.specs.Known.{row_of, known_at}
use Rattle.geos_rows.specs.Reached.{FitWhereReached}
use Rattle.geos_code.specs.Edges.{LeadsTo}
use Rattle.geos_rows.specs.Why.{AreApart, MeetAlike}
use Rattle.geos_counters.specs.Trails.{IsTrail, LeadsKeeping}
use Rattle.loop_causes.specs.Taken as taken
use Rattle.loop_causes.specs.Ahead.{MayPass, NonePasses}
use Rattle.geos_flow.specs.declared.back_way.BackWay.{BackWay}
use Rattle.geos_flow.specs.declared.cause.Within.{Within}
use Rattle.geos_flow.specs.declared.cause.LoopOn.{LoopOn}
use Rattle.geos_flow.specs.declared.cause.LoopPair.{LoopPair}
use Rattle.geos_flow.specs.declared.cause.LoopRing.{LoopRing}
use Rattle.geos_flow.specs.declared.cause.ByWord.{ByWord}
use Rattle.geos_flow.specs.declared.cause.ByNumber.{ByNumber}
use Rattle.geos_flow.specs.declared.cause.Cause.{Cause}
use Rattle.geos_flow.specs.declared.cause.Cause.TheVariants.{SlotsDiffer, NoLoop, SetWithin, SetAgain, TouchedWithin, TouchedBefore, NotSet, InTurn, InRing, StepsPass, WordUnbounded, NumberHigh, WordDear, NumberDear, GivenUp, StepsMayPass, NoSteps, Unfound, Unknown}
use Rattle.geos_counters.specs.Idle.{GoesRound, PassesAt, calls_touching, IsKept, IsUnset, IsNeverPaid}

-- an instruction of routine r has a back edge to a target within the routine
pub record LeadsBack (image : Parts) (r : ℕ) (back : BackWay) : Type 0 where
  pub leads : LeadsTo image back.from true back.to
  pub order : back.to ≤ back.from
  pub from : IsPcOf image r back.from
  pub to : IsPcOf image r back.to

-- the instruction is a LOOP on this counter
abbrev pub loops_on : ℕ → Instr → Opcode → Bool
loops_on k i Loop = i.a == k
loops_on k i _ = false

-- the instruction sets this counter
abbrev pub sets_counter : ℕ → Instr → Opcode → Bool
sets_counter k i Setk = i.a == k
sets_counter k i Setkw = i.a == k
sets_counter k i _ = false

-- a LOOP of routine r on this counter leads to its target in the routine
pub record LoopsTo (image : Parts) (r : ℕ) (back : BackWay) (counter : ℕ) : Type 0 where
  pub leads : LeadsTo image back.from true back.to
  pub from : IsPcOf image r back.from
  pub to : IsPcOf image r back.to
  pub loops : PassesAt image back.from (λ i. loops_on counter i i.opcode)

-- a path in routine r leads from one pc to another, and does not change the counter if one is given
abbrev pub ComesRound : Parts → ℕ → Option ℕ → ℕ → ℕ → Type 0
ComesRound image r counter from to = (branches : List Bool) × IsTrail image r counter from branches to

-- edges that do not change the counter lead from one pc to another, and none of them starts at the excluded pc; each
-- flag says whether an edge leads to a target
abbrev pub IsTrailBut : Parts → ℕ → Option ℕ → Option ℕ → ℕ → List Bool → ℕ → Type 0
IsTrailBut image r counter but from [] to = from ≡ to
IsTrailBut image r counter but from (branch ∷ branches) to = (next : ℕ) × (but ≢ Some from) × LeadsKeeping image r counter from branch next
    × IsTrailBut image r counter but next branches to

-- a path in routine r leads from one pc to another, and no edge of the path starts at the excluded pc
abbrev pub ComesBut : Parts → ℕ → Option ℕ → ℕ → ℕ → Type 0
ComesBut image r but from to = (branches : List Bool) × IsTrailBut image r None but from branches to

-- after a pc the counter does not change on a path to another pc, and no edge of the path starts at the excluded pc
pub record IsKeptBut (image : Parts) (r counter at : ℕ) (but : Option ℕ) (to : ℕ) : Type 0 where
  pub behind : IsPcOf image r (at + 1)
  pub branches : List Bool
  pub trail : IsTrailBut image r (Some counter) but (at + 1) branches to

-- within one iteration an instruction sets the counter of the LOOP. The counter does not change from the LOOP's
-- target up to this instruction, nor from there up to the LOOP.
pub record SetsWithin (image : Parts) (r : ℕ) (within : Within) : Type 0 where
  pub loops : LoopsTo image r within.back within.counter
  pub here : IsPcOf image r within.at
  pub sets : PassesAt image within.at (λ i. sets_counter within.counter i i.opcode)
  pub kept : IsKeptBut image r within.counter within.at (Some within.back.to) within.back.from
  pub round : ComesRound image r (Some within.counter) within.back.to within.at

-- within one iteration, a path that avoids the LOOP leads from its target to an instruction that sets its counter,
-- and from there the counter does not change up to the LOOP
pub record SetsInTurn (image : Parts) (r : ℕ) (within : Within) : Type 0 where
  pub loops : LoopsTo image r within.back within.counter
  pub here : IsPcOf image r within.at
  pub sets : PassesAt image within.at (λ i. sets_counter within.counter i i.opcode)
  pub kept : IsKeptBut image r within.counter within.at (Some within.back.to) within.back.from
  pub turn : ComesBut image r (Some within.back.from) within.back.to within.at

-- a called routine touches the counter of a LOOP, and from there the counter is not set on a path to the LOOP
pub record LeavesTouched (image : Parts) (r : ℕ) (within : Within) : Type 0 where
  pub loops : LoopsTo image r within.back within.counter
  pub here : IsPcOf image r within.at
  pub touches : PassesAt image within.at (calls_touching image within.counter)
  pub kept : IsKept image r within.counter within.at within.back.from

-- the same, and control comes from the LOOP's target to the LOOP
pub record TouchesBefore (image : Parts) (r : ℕ) (within : Within) : Type 0 where
  pub left : LeavesTouched image r within
  pub round : ComesRound image r None within.back.to within.back.from

-- the same, and control comes from the LOOP's target to the call
pub record TouchesWithin (image : Parts) (r : ℕ) (within : Within) : Type 0 where
  pub left : LeavesTouched image r within
  pub round : ComesRound image r None within.back.to within.at

-- a LOOP closes a cycle, and on a path from the start of routine r to the LOOP nothing sets or touches its counter
pub record TakesUnset (image : Parts) (r : ℕ) (own : LoopOn) : Type 0 where
  pub loops : LoopsTo image r own.back own.counter
  pub unset : IsUnset image r own.counter own.back.from
  pub round : ComesRound image r None own.back.to own.back.from

-- two LOOPs differ. In the cycle of the first, on which its own counter does not change, an instruction sets the
-- counter of the other. From there this counter does not change up to the other LOOP.
pub record SetsFor (image : Parts) (r : ℕ) (back : BackWay) (own : ℕ) (other : BackWay) (counter at : ℕ) : Type 0 where
  pub differ : back.from ≢ other.from
  pub here : IsPcOf image r at
  pub sets : PassesAt image at (λ i. sets_counter counter i i.opcode)
  pub kept : IsKept image r counter at other.from
  pub round : ComesRound image r (Some own) back.to at
  pub again : ComesRound image r (Some own) at back.from

-- after a pc the counter does not change on a path to a LOOP on it, and this LOOP closes a cycle
pub record PaysForLoop (image : Parts) (r counter at : ℕ) : Type 0 where
  pub back : BackWay
  pub loops : LoopsTo image r back counter
  pub kept : IsKept image r counter at back.from
  pub round : ComesRound image r None back.to back.from

-- two LOOPs close loops in each of which the counter of the other is set for it
pub record WaitInTurn (image : Parts) (r : ℕ) (both : LoopPair) : Type 0 where
  pub loops : LoopsTo image r both.back both.counter
  pub other_loops : LoopsTo image r both.other both.other_counter
  pub sets : SetsFor image r both.back both.counter both.other both.other_counter both.at
  pub other_sets : SetsFor image r both.other both.other_counter both.back both.counter both.other_at

-- in the loop that a LOOP closes, the counter of another is set for it
pub record WaitsFor (image : Parts) (r : ℕ) (back other : BackWay) : Type 0 where
  pub own : ℕ
  pub counter : ℕ
  pub at : ℕ
  pub own_loops : LoopsTo image r back own
  pub loops : LoopsTo image r other counter
  pub sets : SetsFor image r back own other counter at

-- a chain of LOOPs in which each one waits for the next; the list has those between, the last one first
abbrev pub WaitOn : Parts → ℕ → BackWay → List BackWay → BackWay → Type 0
WaitOn image r from [] to = from ≡ to
WaitOn image r from (back ∷ before) to = WaitsFor image r back to × WaitOn image r from before back

-- a ring of LOOPs: the first waits for the next, this one for a third, and so on back to the first
pub record WaitInRing (image : Parts) (r : ℕ) (ring : LoopRing) : Type 0 where
  pub loops : LoopsTo image r ring.back ring.counter
  pub sets : SetsFor image r ring.back ring.counter ring.next ring.next_counter ring.at
  pub next_loops : LoopsTo image r ring.next ring.next_counter
  pub third : BackWay
  pub next_sets : SetsFor image r ring.next ring.next_counter third ring.third_counter ring.next_at
  pub third_loops : LoopsTo image r third ring.third_counter
  pub others : List BackWay
  pub rest : WaitOn image r third others ring.back

-- the instruction sets this counter to a word
abbrev pub sets_to_word : ℕ → ℕ → Instr → Opcode → Bool
sets_to_word k w i Setkw = (i.a == k) && (i.b == w)
sets_to_word k w i _ = false

-- `most` is the least bound of a word at a pc in any rows that hold wherever control reaches in routine r
pub record IsAtMost (image : Parts) (r pc word most : ℕ) : Type 0 where
  pub known : List (Option Row)
  pub holds : FitWhereReached image r known
  pub is : most ≡ bound (row_of (known_at known pc)) word
  pub least : (others : List (Option Row)) → FitWhereReached image r others → most ≤ bound (row_of (known_at others pc)) word

-- for a LOOP, an instruction of routine r sets a counter to a word with this bound
pub record SetsByWord (image : Parts) (r : ℕ) (by_word : ByWord) : Type 0 where
  pub here : IsPcOf image r by_word.at
  pub sets : PassesAt image by_word.at (λ i. sets_to_word by_word.counter by_word.word i i.opcode)
  pub most : IsAtMost image r by_word.at by_word.word by_word.most
  pub for_loop : PaysForLoop image r by_word.counter by_word.at

-- the instruction sets this counter to a number
abbrev pub sets_to_number : ℕ → ℕ → Instr → Opcode → Bool
sets_to_number k n i Setk = (i.a == k) && (i.imm == n)
sets_to_number k n i _ = false

-- for a LOOP, an instruction of routine r sets a counter to a number
pub record SetsByNumber (image : Parts) (r : ℕ) (by_number : ByNumber) : Type 0 where
  pub here : IsPcOf image r by_number.at
  pub sets : PassesAt image by_number.at (λ i. sets_to_number by_number.counter by_number.number i i.opcode)
  pub for_loop : PaysForLoop image r by_number.counter by_number.at

-- routine r has only forward edges, no path has more steps than a potential can say, and the slots of any two paths
-- to one pc differ in marks at most
pub record IsUnexplained (image : Parts) (r : ℕ) : Type 0 where
  pub steps : NonePasses image r
  pub slots : MeetAlike image r

-- the cause holds of the image's routine r
abbrev pub Holds : Parts → ℕ → Cause → Type 0
Holds image r (SlotsDiffer apart) = AreApart image r apart
Holds image r (NoLoop back) = GoesRound image r back.from back.to
Holds image r (SetWithin within) = SetsWithin image r within
Holds image r (SetAgain within) = SetsInTurn image r within
Holds image r (TouchedWithin within) = TouchesWithin image r within × IsNeverPaid image r
Holds image r (TouchedBefore within) = TouchesBefore image r within × IsNeverPaid image r
Holds image r (NotSet own) = TakesUnset image r own × IsNeverPaid image r
Holds image r (InTurn both) = WaitInTurn image r both
Holds image r (InRing ring) = WaitInRing image r ring
Holds image r StepsPass = taken.StepsPass image r
Holds image r (WordUnbounded by_word) = SetsByWord image r by_word × taken.WordsPass image r
Holds image r (NumberHigh by_number) = SetsByNumber image r by_number × taken.WordsPass image r
Holds image r (WordDear by_word) = SetsByWord image r by_word
Holds image r (NumberDear by_number) = SetsByNumber image r by_number
Holds image r (GivenUp back) = LeadsBack image r back
Holds image r StepsMayPass = MayPass image r
Holds image r (NoSteps back) = LeadsBack image r back × (IsNeverPaid image r → ⊥)
Holds image r (Unfound back) = LeadsBack image r back
Holds image r Unknown = IsUnexplained image r

-- the cause is that slots differ
abbrev pub tells_of_slots : Cause → Bool
tells_of_slots (SlotsDiffer apart) = true
tells_of_slots _ = false

-- if the cause is unknown, no other cause holds
abbrev pub NoOtherHolds : Type 0
NoOtherHolds = (image : Parts) (r : ℕ) (cause : Cause) → Holds image r Unknown → cause ≢ Unknown → Holds image r cause → ⊥
