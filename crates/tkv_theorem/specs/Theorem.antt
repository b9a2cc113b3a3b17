-- The theorem: what runs is what was written.
use Rattle.std.specs.Prelude.{◌≡◌, ℕ, Some, List, slice_get}
use Rattle.std.specs.Global.{Vec}
use Rattle.geos_terms.specs.declared.name.Name.{Name}
use Rattle.geos_calls.specs.VmFile.{VmFile}
use Rattle.geos_calls.specs.Memory.{locks_of}
use Rattle.geos_image.specs.Parts.{Parts}
use Rattle.vm_file.specs.Device.{Medium}
use Rattle.geos_kernel.specs.View.{KernelOn, KernelState, memory_of, IsFileOf}
use Rattle.geos_kernel.specs.Kernel.{IsChosen}
use Rattle.geos_machine.specs.declared.outcome.Outcome.{Outcome}
use Rattle.geos_machine.specs.Runs.{begin, OpensAsOneOf, Within, Throughout, Gave}
use Rattle.tkv_places.specs.declared.placed.Placed.{Placed}
use Rattle.tkv_meaning.specs.Statements.{Stmt}
use Rattle.tkv_meaning.specs.Meaning.{Scope, first_scope, Drifts}
use Rattle.tkv_meaning.specs.Written.{RoutineDoes}
use Rattle.tkv_checks.specs.Items.{SpellsRoutine}
use Rattle.tkv_checks.specs.Checked.{IsWritten}

-- a run did what placed items say. Under allowed choices their statement takes the first scope to the last one. The
-- kernel's memory, the words and the output are those of the last scope, and each lock count is the same as in the
-- first scope. After a stop within the run the file opens as what it had committed in one of the scopes.
pub record DidAsWritten (honest : Type 0) (within : Within) (items : List Placed) (first : Scope) (old new : KernelState) (outcome : Outcome)
    : Type 0 where
  pub body : Stmt
  pub spells : SpellsRoutine items body
  pub last : Scope
  pub does : RoutineDoes (IsChosen honest old new) body first last
  pub file : VmFile
  pub tied : IsFileOf honest new file
  pub memory : memory_of new file ≡ last.memory
  pub words : outcome.words ≡ last.words
  pub output : outcome.output.items ≡ last.output
  pub locks : (name : Name) → locks_of last.memory name ≡ locks_of first.memory name
  pub stops : honest → within (OpensAsOneOf last.kept)

-- if an image has the code of placed routines, as `compile` promises, and a run of routine r gave an outcome, as `run_in_place` promises, then
-- the run did what the placed routine r says, whatever VM file the model knows
abbrev pub CompiledRunsAsWritten : {D : Type 0} → Medium D → Type 0
CompiledRunsAsWritten {D} medium = (image : Parts) (placed : List (Vec Placed)) → IsWritten image placed
    → (r : ℕ) (items : Vec Placed) → slice_get placed r ≡ Some items
    → (words handles : List ℕ) (old new : KernelOn D) (outcome : Outcome) → Gave medium image r words handles old new outcome
    → (f : VmFile) → IsFileOf (medium.honest old.device) old.core f
    → DidAsWritten (medium.honest old.device) (Throughout medium old.device new.device) items.items
    (first_scope (begin image r words handles (memory_of old.core f))) old.core new.core outcome

-- with an honest device, steps of control change nothing
abbrev pub HonestDriftsStay : {D : Type 0} → Medium D → Type 0
HonestDriftsStay {D} medium = (old new : KernelOn D) → medium.honest old.device → (x y : Scope)
    → Drifts (IsChosen (medium.honest old.device) old.core new.core) x y → x ≡ y
