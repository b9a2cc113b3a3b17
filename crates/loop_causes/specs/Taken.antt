-- Ways that control may go, with its counters, and the steps that are taken on them.
use Rattle.std.specs.Prelude.{◌≡◌, ◌<◌, ◌+◌, ◌-◌, ℕ, Bool, true, false, List, [], ◌∷◌, Option, Some, None, length, slice_index, slice_set}
use Rattle.geos_opcodes.specs.declared.opcode.Opcode.{Opcode}
use Rattle.geos_opcodes.specs.declared.opcode.Opcode.TheVariants.{Setk, Setkw, Loop, Call}
use Rattle.geos_image.specs.declared.instr.Instr.{Instr}
use Rattle.geos_image.specs.declared.row.Row.{Row}
use Rattle.geos_image.specs.Parts.{Parts}
use Rattle.geos_verify.specs.Rows.{bound}
use Rattle.geos_verify.specs.Touched.{touches}
use Rattle.geos_code.specs.Code.{IsPcOf}
use Rattle.geos_code.specs.Known.{known_at}
use Rattle.geos_counters.specs.Counters.{zeros}
use Rattle.geos_rows.specs.Reached.{AreAtMostAny}
use Rattle.geos_counters.specs.Steps.{taken_at, most_steps}
use Rattle.geos_code.specs.Edges.{LeadsTo}

-- a place of control: the pc, and the counters k0 to k3 there
pub record Place : Type 0 where
  pub pc : ℕ
  pub counters : List ℕ

-- each counter is as before, but those that the routine touches
pub record KeepsUntouched (image : Parts) (r : ℕ) (before after : List ℕ) : Type 0 where
  pub len : length after ≡ length before
  pub each : (k : ℕ) → touches image k r ≡ false → slice_index after k ≡ slice_index before k

-- the value that is assumed of a word at a pc: its bound in the row that is known there, or 0 if none is known
abbrev pub word_at : List (Option Row) → ℕ → ℕ → ℕ
word_at rows pc word = elim (known_at rows pc) [ None ↦ 0 | Some row ↦ bound row word ]

-- what an edge does to the counters, if the word has this value. SETK sets its counter to a constant, and SETKW to
-- the word. A LOOP goes to its target if its counter is above 0, and takes 1 from it; otherwise it goes to the next
-- instruction. A call may change only counters that the routine touches.
abbrev pub Counts : ℕ → Parts → Instr → Opcode → Bool → List ℕ → List ℕ → Type 0
Counts word image i Setk branch before after = after ≡ slice_set before i.a i.imm
Counts word image i Setkw branch before after = after ≡ slice_set before i.a word
Counts word image i Loop true before after = (0 < slice_index before i.a) × (after ≡ slice_set before i.a (slice_index before i.a - 1))
Counts word image i Loop false before after = (slice_index before i.a ≡ 0) × (after ≡ before)
Counts word image i Call branch before after = KeepsUntouched image i.imm before after
Counts word image i _ branch before after = after ≡ before

-- control goes along an edge from a place in routine r to another; a test may take both of its edges, and each word
-- has the bound of its row
pub record Goes (rows : List (Option Row)) (image : Parts) (r : ℕ) (from to : Place) : Type 0 where
  pub within : IsPcOf image r from.pc
  pub branch : Bool
  pub leads : LeadsTo image from.pc branch to.pc
  pub counts : Counts (word_at rows from.pc leads.point.instr.b) image leads.point.instr leads.point.instr.opcode branch from.counters to.counters

-- control goes from one place to another, through these on the way, the last first, and takes so many steps
abbrev pub Takes : List (Option Row) → Parts → ℕ → Place → List Place → Place → ℕ → Type 0
Takes rows image r from [] to steps = (to ≡ from) × (steps ≡ 0)
Takes rows image r from (place ∷ places) to steps = (before : ℕ) × Takes rows image r from places place before × Goes rows image r place to
    × (steps ≡ before + taken_at image place.pc)

-- on a way in routine r on which all counters are 0 at first, and words are as much as rows say, more steps are taken than a potential can say
pub record StepsPassBy (rows : List (Option Row)) (image : Parts) (r : ℕ) : Type 0 where
  pub from : ℕ
  pub places : List Place
  pub end : Place
  pub ends : IsPcOf image r end.pc
  pub before : ℕ
  pub way : Takes rows image r (record { pc = from; counters = zeros }) places end before
  pub past : most_steps < before + taken_at image end.pc

-- the same if each word is 0
abbrev pub StepsPass : Parts → ℕ → Type 0
StepsPass image r = (rows : List (Option Row)) × ((pc : ℕ) → known_at rows pc ≡ None) × StepsPassBy rows image r

-- the same if each word has its least bound in any rows that hold
abbrev pub WordsPass : Parts → ℕ → Type 0
WordsPass image r = (rows : List (Option Row)) × AreAtMostAny image r rows × StepsPassBy rows image r
