-- The theorem: a routine does what its statement says.
use Rattle.std.specs.Prelude.{◌≡◌, ℕ, nat_lt, if◌then◌else◌, List, [], ◌∷◌, length, Contains}
use Rattle.geos_calls.specs.Effects.{Choice}
use Rattle.geos_calls.specs.VmFile.{Kept}
use Rattle.geos_image.specs.Parts.{Parts}
use Rattle.geos_semantics.specs.State.{State}
use Rattle.geos_semantics.specs.Model.{Fault, Next, Done, Returned, run, step}
use Rattle.tkv_meaning.specs.Statements.{Stmt, Skip, Then, IsFormed}
use Rattle.tkv_meaning.specs.Code.{IsRoutineCode}
use Rattle.tkv_meaning.specs.Meaning.{Scope, scope, first_scope, On, Does}

-- what the file keeps in the states of a run that began with so many returns on the stack, one after another
abbrev pub kept_in : Parts → ℕ → List Choice → State → List Kept
kept_in image depth [] s = s.memory.file.kept ∷ []
kept_in image depth (choice ∷ choices) s = s.memory.file.kept ∷ elim (step image choice s) [
  | Fault ↦ []
  | Next t ↦ if nat_lt (length t.stack) depth then t.memory.file.kept ∷ [] else kept_in image depth choices t
  | Done t ↦ t.memory.file.kept ∷ []
]

-- what a routine does: its statement, and then the return, which is a step of control
abbrev pub RoutineDoes : (Choice → Type 0) → Stmt → Scope → Scope → Type 0
RoutineDoes allowed body x y = Does allowed (Then body Skip) x On y

-- a run between two states did what the routine's statement says, under allowed choices; and everything
-- that the file had committed in a state of the run, it had committed in a scope of the statement
pub record HasDone (allowed : Choice → Type 0) (body : Stmt) (first : State) (passed : List Kept) (last : State) : Type 0 where
  pub kept : List Kept
  pub does : RoutineDoes allowed body (first_scope first) (scope kept last)
  pub keeps : (old : Kept) → Contains passed old → Contains kept old

-- if a run of a routine returns, it did what the routine's statement says, under the choices of the run
abbrev pub RoutinesDoWhatIsWritten : Type 0
RoutinesDoWhatIsWritten = (image : Parts) (body : Stmt) → IsFormed body
    → (choices : List Choice) (n m : ℕ) (s last : State) → IsRoutineCode image body s.pc
    → run image (length s.stack) choices n s ≡ Returned m last
    → HasDone (Contains choices) body s (kept_in image (length s.stack) choices s) last
