-- What is known of the paths to a place, and of iterations of loops: the least number of steps, and the counters.
use Rattle.std.specs.Prelude.{◌≡◌, ◌≤◌, ◌<◌, ◌+◌, ◌*◌, ◌-◌, ℕ, Bool, true, false, ◌==◌, if◌then◌else◌, List, [], ◌∷◌, Option, Some, None, length, option_map, slice_get, slice_index, slice_index_or, slice_set}
use Rattle.geos_opcodes.specs.declared.opcode.Opcode.{Opcode}
use Rattle.geos_opcodes.specs.declared.opcode.Opcode.TheVariants.{Setk, Setkw, Loop, Call}
use Rattle.geos_image.specs.declared.instr.Instr.{Instr}
use Rattle.geos_image.specs.declared.point.Point.{Point}
use Rattle.geos_image.specs.declared.row.Row.{Row}
use Rattle.geos_image.specs.Parts.{Parts}
use Rattle.geos_verify.specs.Lists.{zip2}
use Rattle.loop_causes.specs.declared.counters.Counter.{Counter}
use Rattle.loop_causes.specs.declared.counters.Counter.TheVariants.{Kept, Is, Unknown}
use Rattle.loop_causes.specs.declared.reach.Reach.{Reach}
use Rattle.geos_code.specs.Code.{IsPcOf}
use Rattle.loop_causes.specs.Taken.{Place, Takes}

-- Counters

-- what is known of a counter
abbrev pub counter_at : List Counter → ℕ → Counter
counter_at counters k = slice_index_or counters k Unknown

-- four counters of which the same is known
abbrev pub all_are : Counter → List Counter
all_are counter = counter ∷ counter ∷ counter ∷ counter ∷ []

-- what is known of a counter is true, with its value at the start of the path and now
abbrev pub IsSo : Counter → ℕ → ℕ → Type 0
IsSo Kept begin now = now ≡ begin
IsSo (Is n) begin now = now ≡ n
IsSo Unknown begin now = Unit {0}

-- what is known of the four counters is true
pub record AreSo (known : List Counter) (begin now : List ℕ) : Type 0 where
  pub four : length now ≡ 4
  pub each : (k : ℕ) → IsSo (counter_at known k) (slice_index begin k) (slice_index now k)

-- the least value of a counter
abbrev pub number_in : Counter → ℕ
number_in (Is n) = n
number_in _ = 0

-- the steps of a path, with those of the iterations that its counters still allow, if the longest iterations take so
-- many steps
abbrev pub worth : Reach → List ℕ → ℕ
worth reach longest = reach.steps + number_in (counter_at reach.counters 0) * slice_index longest 0
    + number_in (counter_at reach.counters 1) * slice_index longest 1
    + number_in (counter_at reach.counters 2) * slice_index longest 2
    + number_in (counter_at reach.counters 3) * slice_index longest 3

-- what is known of a counter after one more path, which leaves it unchanged or not
abbrev pub unless_changed : Counter → Counter → Counter
unless_changed Kept counter = counter
unless_changed _ counter = Unknown

-- what is known of a LOOP's counter after one of its edges, or None if control can't be known to take this edge
abbrev pub loop_after : Counter → Bool → Option Counter
loop_after (Is n) true = if n == 0 then None else Some (Is (n - 1))
loop_after (Is n) false = if n == 0 then Some (Is 0) else None
loop_after _ branch = None

-- what is known of the counters after an edge of an instruction, or None if control can't be known to take it. The
-- word has this value, and a call leaves only the counters unchanged that `called` lists as such.
abbrev pub counters_after : ℕ → Instr → Opcode → Bool → List Counter → List Counter → Option (List Counter)
counters_after word i Setk branch called known = Some (slice_set known i.a (Is i.imm))
counters_after word i Setkw branch called known = Some (slice_set known i.a (Is word))
counters_after word i Loop branch called known = option_map (slice_set known i.a) (loop_after (counter_at known i.a) branch)
counters_after word i Call branch called known = Some (zip2 unless_changed called known)
counters_after word i _ branch called known = Some known

-- Paths on which each word has the bound of its row

-- the start of paths: some pc between two, with what is known of the counters there
pub record Begin : Type 0 where
  pub low : ℕ
  pub high : ℕ
  pub known : List Counter

-- paths that start at a pc, with any counters
abbrev pub begin_at : ℕ → Begin
begin_at pc = record { low = pc; high = pc; known = all_are Kept }

-- paths that start at some pc between two, with all counters 0
abbrev pub begin_from : ℕ → ℕ → Begin
begin_from low high = record { low = low; high = high; known = all_are (Is 0) }

-- a path that starts with these counters leads to a pc and takes at least so many steps, and what is known of the
-- counters there is true
pub record ComesTo (rows : List (Option Row)) (image : Parts) (r : ℕ) (begin : Begin) (counters : List ℕ) (pc : ℕ) (reach : Reach) : Type 0 where
  pub from : ℕ
  pub above : begin.low ≤ from
  pub below : from ≤ begin.high
  pub places : List Place
  pub now : List ℕ
  pub steps : ℕ
  pub way : Takes rows image r (record { pc = from; counters = counters }) places (record { pc = pc; counters = now }) steps
  pub least : reach.steps ≤ steps
  pub so : AreSo reach.counters counters now

-- the same for all counters with which paths may start
abbrev pub AlwaysComesTo : List (Option Row) → Parts → ℕ → Begin → ℕ → Reach → Type 0
AlwaysComesTo rows image r begin pc reach = (counters : List ℕ) → AreSo begin.known counters counters → ComesTo rows image r begin counters pc reach

-- each path to one pc can be continued to another
abbrev pub GoOn : List (Option Row) → Parts → ℕ → ℕ → Reach → ℕ → Reach → Type 0
GoOn rows image r pc reach to next = (begin : Begin) → AlwaysComesTo rows image r begin pc reach → AlwaysComesTo rows image r begin to next

-- for each pc between two, what a table says of paths to the pc is true
abbrev pub AreReached : List (Option Row) → Parts → ℕ → Begin → ℕ → ℕ → List (Option Reach) → Type 0
AreReached rows image r begin low high reached = (pc : ℕ) (reach : Reach) → low ≤ pc → pc ≤ high → slice_index_or reached pc None ≡ Some reach
    → AlwaysComesTo rows image r begin pc reach

-- if what a table says of paths to these places was true, it still is
abbrev pub StayReached : List (Option Row) → Parts → ℕ → ℕ → ℕ → List (Option Reach) → List (Option Reach) → Type 0
StayReached rows image r low high reached next = (begin : Begin) → AreReached rows image r begin low high reached
    → AreReached rows image r begin low high next

-- the instruction at a pc of routine r is a LOOP, and an iteration leads from its target back to it, with its counter
-- unchanged
pub record IsTurn (rows : List (Option Row)) (image : Parts) (r pc : ℕ) (turn : Reach) : Type 0 where
  pub within : IsPcOf image r pc
  pub point : Point
  pub there : slice_get image.points pc ≡ Some point
  pub loops : point.instr.opcode ≡ Loop
  pub few : point.instr.a < 4
  pub way : AlwaysComesTo rows image r (begin_at point.instr.target) pc turn
  pub kept : counter_at turn.counters point.instr.a ≡ Kept

-- what a table says of iterations is true
abbrev pub AreTurns : List (Option Row) → Parts → ℕ → List (Option Reach) → Type 0
AreTurns rows image r turns = (pc : ℕ) (turn : Reach) → slice_index_or turns pc None ≡ Some turn → IsTurn rows image r pc turn
