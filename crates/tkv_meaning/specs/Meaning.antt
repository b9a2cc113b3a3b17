-- What a statement does: its big-step meaning over the memory of the model.
use Rattle.std.specs.Prelude.{◌≡◌, ◌⊎◌, ◌<◌, ◌==◌, ℕ, zero, suc, ◌+◌, ◌-◌, Bool, true, false, if◌then◌else◌, Option, List, [], ◌∷◌, slice_index, slice_set}
use Rattle.geos_calls.specs.Memory.{Memory}
use Rattle.geos_calls.specs.VmFile.{Kept}
use Rattle.geos_calls.specs.Given.{given_memory}
use Rattle.geos_calls.specs.Effects.{Choice}
use Rattle.geos_image.specs.declared.instr.Instr.{Instr}
use Rattle.geos_image.specs.Parts.{Parts}
use Rattle.geos_semantics.specs.Lists.{Each}
use Rattle.geos_semantics.specs.State.{Held, SlotReference, State, goto}
use Rattle.geos_semantics.specs.Model.{Next, tried, begun}
use Rattle.tkv_meaning.specs.Statements.{Stmt, Skip, Act, Try, Leave, Then, Block, Loop, Count, Closing}
use Rattle.tkv_meaning.specs.Code.{aimed}

-- what a statement reads and writes: memory, registers and output, but
-- not the pc; and what the file has committed so far, latest first
pub record Scope : Type 0 where
  pub memory : Memory
  pub words : List ℕ
  pub counters : List ℕ
  pub slots : List (Option Held)
  pub pointers : List (Option SlotReference)
  pub output : List ℕ
  pub kept : List Kept

-- the scope of a state of the model, if the file has committed these contents so far
abbrev pub scope : List Kept → State → Scope
scope kept s = record {
  memory = s.memory;
  words = s.words;
  counters = s.counters;
  slots = s.slots;
  pointers = s.pointers;
  output = s.output;
  kept = kept;
}

-- the scope in which a routine begins
abbrev pub first_scope : State → Scope
first_scope s = scope (s.memory.file.kept ∷ []) s

-- how a statement ends: control continues after it, or takes an exit
pub data Way : Type 0 where
  On : Way
  Out : ℕ → Way

-- the scope after steps of control, in which a device that is not honest may change memory
abbrev pub drifted : List Choice → Scope → Scope
drifted [] x = x
drifted (c ∷ cs) x = drifted cs (record x { memory = given_memory c.given x.memory })

-- steps of control, under choices from outside that are allowed, lead from a scope to another; with an honest device these are the same
abbrev pub Drifts : (Choice → Type 0) → Scope → Scope → Type 0
Drifts allowed x y = (choices : List Choice) × Each allowed choices × (y ≡ drifted choices x)

-- the pc after an instruction: its target, or the next pc
abbrev pub pc_after : Bool → ℕ → ℕ → ℕ
pc_after true next target = target
pc_after false next target = next

-- no code: an instruction of a statement is no call, and depends on no image
abbrev pub no_code : Parts
no_code = record { keyed = false; routines = []; points = [] }

-- one instruction takes a scope to another under an allowed choice, and leaves to its target or not: the same whatever the target is
pub record Acts (allowed : Choice → Type 0) (i : Instr) (x : Scope) (leaves : Bool) (y : Scope) : Type 0 where
  pub choice : Choice
  pub chosen : allowed choice
  pub before : State
  pub from_x : scope x.kept before ≡ x
  pub after : State
  pub to_y : scope (after.memory.file.kept ∷ x.kept) after ≡ y
  pub step : (target : ℕ) → tried no_code choice (aimed i target) (begun choice before) ≡ Next (goto (pc_after leaves (before.pc + 1) target) after)

-- what statements do to a scope, and how they end
abbrev pub Action : Type 1
Action = Scope → Way → Scope → Type 0

-- the test of a loop finds its counter above 0, and makes it one lower
abbrev pub Again : (Choice → Type 0) → ℕ → Scope → Scope → Type 0
Again allowed k x y = (m : Scope) × Drifts allowed x m × (0 < slice_index m.counters k)
    × Drifts allowed (record m { counters = slice_set m.counters k (slice_index m.counters k - 1) }) y

-- the test of a loop finds its counter at 0
abbrev pub Spent : (Choice → Type 0) → ℕ → Scope → Scope → Type 0
Spent allowed k x y = (m : Scope) × Drifts allowed x m × (slice_index m.counters k ≡ 0) × Drifts allowed m y

-- from the test of a loop on, n iterations finish; then the counter is 0, or one more iteration leaves by an exit
abbrev pub Turns : (Choice → Type 0) → ℕ → Action → ℕ → Action
Turns allowed k body zero x way y = (Spent allowed k x y × (way ≡ On)) ⊎ ((m : Scope) × (j : ℕ) × Again allowed k x m × body m (Out j) y × (way ≡ Out j))
Turns allowed k body (suc n) x way y = (m : Scope) × (z : Scope) × Again allowed k x m × body m On z × Turns allowed k body n z way y

-- how a block ends if its body ends in this way
abbrev pub outside : ℕ → Way → Way
outside l On = On
outside l (Out j) = if j == l then On else Out j

-- under allowed choices from outside, the statement may take one scope to another and end in this way
abbrev pub Does : (Choice → Type 0) → Stmt → Action
Does allowed Skip x way y = Drifts allowed x y × (way ≡ On)
Does allowed (Act i) x way y = (m : Scope) × Drifts allowed x m × Acts allowed i m false y × (way ≡ On)
Does allowed (Try i l) x way y = (m : Scope) × Drifts allowed x m × ((Acts allowed i m false y × (way ≡ On)) ⊎ (Acts allowed i m true y × (way ≡ Out l)))
Does allowed (Leave l) x way y = Drifts allowed x y × (way ≡ Out l)
Does allowed (Then a b) x way y = ((m : Scope) × Does allowed a x On m × Does allowed b m way y) ⊎ ((j : ℕ) × Does allowed a x (Out j) y × (way ≡ Out j))
Does allowed (Block l a) x way y = (inner : Way) × Does allowed a x inner y × (way ≡ outside l inner)
Does allowed (Loop k a) x way y = ((m : Scope) × Does allowed a x On m × ((n : ℕ) × Turns allowed k (Does allowed a) n m way y))
    ⊎ ((j : ℕ) × Does allowed a x (Out j) y × (way ≡ Out j))
Does allowed (Count k a) x way y = (n : ℕ) × Turns allowed k (Does allowed a) n x way y
Does allowed (Closing a i) x way y = (m n : Scope) × Does allowed a x way m × Drifts allowed m n × Acts allowed i n false y
