-- One call, of whose steps notes are taken.
use Rattle.std.specs.Prelude.{◌≡◌, ℕ, ◌+◌, List, length, Option, Some, None, option_map, option_and_then, slice_get, Result, Ok, Err}
use Rattle.geos_terms.specs.declared.refusal.Refusal.{Refusal}
use Rattle.geos_calls.specs.VmFile.{Kept}
use Rattle.vm_file.specs.Device.{Medium}
use Rattle.geos_kernel.specs.View.{KernelOn}
use Rattle.geos_image.specs.Parts.{Parts, start_of}
use Rattle.geos_image.specs.Reading.{image_at}
use Rattle.geos_verify.specs.Rules.{Accepted}
use Rattle.geos_machine.specs.declared.outcome.Outcome.{Outcome}
use Rattle.geos_machine.specs.Runs.{begin, kept_along, Ran}
use Rattle.geos_machine.specs.Traces.{Notes, TellsAll, steps_of}
use Rattle.script_commands.specs.declared.command.Call.{Call}
use Rattle.script_commands.specs.declared.call_fault.CallFault.TheVariants.{Script}
use Rattle.geos_input.specs.declared.fault.ScriptFault.TheVariants.{Write}
use Rattle.geos_cli.specs.declared.traced.TracedCall.{TracedCall}
use Rattle.geos_cli.specs.declared.traced.TraceFault.{TraceFault}
use Rattle.geos_cli.specs.declared.traced.TraceFault.TheVariants as fault
use Rattle.geos_cli.specs.Calls.{Asks, CallEndsBy}
use Rattle.script_commands.specs.Lent.{lent_by}
use Rattle.script_commands.specs.Lines.{routine_named}
use Rattle.geos_cli.specs.Script.{Allows, LeadsOn, Locks, NotLent, Stage, Then, Unlocks}

-- the first pc of the named routine, and the pc after its last one; without a name, the same for all routines
abbrev pub stretch_of : Parts → Option (List ℕ) → Option (ℕ × ℕ)
stretch_of image None = Some (0, length image.points)
stretch_of image (Some name) =
    option_and_then (λ r. option_map (λ routine. (start_of image.routines r, start_of image.routines r + routine.count)) (slice_get image.routines r))
    (routine_named image name)

-- the routine of a call runs on the blocks that the call lends, and the trace is true of its steps
abbrev pub TracesOn : Allows → Parts → Call → Outcome → Notes → Stage → Stage → List Kept → Type 0
TracesOn allows image call outcome notes before after keeps =
    (ran : Ran (allows before.failed after.failed) image call.routine call.words call.handles before.memory after.memory outcome)
    × TellsAll image notes (steps_of image ran.choices (begin image call.routine call.words call.handles before.memory))
    × (keeps ≡ kept_along image ran.choices (begin image call.routine call.words call.handles before.memory))

-- the blocks that a call lends are locked, its routine runs, of which notes are taken, and they are unlocked
abbrev pub TracesLent : Allows → Parts → Call → Outcome → Notes → Stage → Stage → List Kept → Type 0
TracesLent allows image call outcome notes = Then (Then (Locks allows (lent_by image call)) (TracesOn allows image call outcome notes))
    (Unlocks allows (lent_by image call))

-- notes are of the same stretch and number of steps
pub record IsMadeAs (blank notes : Notes) : Type 0 where
  pub first : notes.first ≡ blank.first
  pub end : notes.end ≡ blank.end
  pub most : notes.most ≡ blank.most

-- the call that the words name ran on the image that the bytes encode, and its trace has at most so many steps, of
-- the named routine or of all
pub record IsTracedCall {D : Type 0} (medium : Medium D) (old new : KernelOn D) (bytes name : List ℕ) (words : List (List ℕ))
    (only : Option (List ℕ)) (most : ℕ) (traced : TracedCall) : Type 0 where
  pub call : Call
  pub asks : Asks bytes name words traced.checked call
  pub routine : traced.routine ≡ call.routine
  pub stretch : stretch_of traced.checked only ≡ Some (traced.trace.first, traced.trace.end)
  pub room : traced.trace.most ≡ most
  pub ran : LeadsOn medium old new (λ allows. TracesLent allows traced.checked call traced.outcome traced.trace)

-- or a block that it lends was not locked
pub record IsNotLent {D : Type 0} (medium : Medium D) (old new : KernelOn D) (bytes name : List ℕ) (words : List (List ℕ)) (why : Refusal)
    : Type 0 where
  pub image : Parts
  pub call : Call
  pub asks : Asks bytes name words image call
  pub refused : LeadsOn medium old new (λ allows. NotLent allows (lent_by image call) why)

-- the result of such a call
abbrev pub IsTraced : {D : Type 0} → Medium D → KernelOn D → KernelOn D → List ℕ → List ℕ → List (List ℕ) → Option (List ℕ) → ℕ
    → Result TracedCall Refusal → Type 0
IsTraced medium old new bytes name words only most (Ok traced) = IsTracedCall medium old new bytes name words only most traced
IsTraced medium old new bytes name words only most (Err why) = IsNotLent medium old new bytes name words why

-- no routine has the name
pub record HasNone (bytes : List ℕ) (only : Option (List ℕ)) : Type 0 where
  pub image : Parts
  pub read : image_at bytes ≡ Ok image
  pub accepted : Accepted image
  pub none : stretch_of image only ≡ None

-- why such a call does not run: a fault of the call; or no routine has the name whose steps are to be traced
abbrev pub WhyNotTraced : List ℕ → List ℕ → List (List ℕ) → Option (List ℕ) → TraceFault → Type 0
WhyNotTraced bytes name words only (fault.Call (Script Write)) = ⊥
WhyNotTraced bytes name words only (fault.Call why) = CallEndsBy bytes name words why
WhyNotTraced bytes name words only fault.NoRoutine = HasNone bytes only
