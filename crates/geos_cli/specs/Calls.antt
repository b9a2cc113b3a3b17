-- One call that words name: why it is none, and what it prints.
use Rattle.std.specs.Prelude.{◌≡◌, ℕ, List, [], ◌∷◌, Option, Some, Ok}
use Rattle.std.specs.Io.KnownBytes.{Appends}
use Rattle.geos_calls.specs.VmFile.{Kept}
use Rattle.geos_kernel.specs.View.{KernelState}
use Rattle.geos_image.specs.Parts.{Parts}
use Rattle.geos_image.specs.Reading.{image_at}
use Rattle.geos_verify.specs.Rules.{Accepted}
use Rattle.geos_machine.specs.Runs.{Within}
use Rattle.geos_input.specs.declared.fault.ScriptFault.TheVariants.{Write}
use Rattle.script_commands.specs.declared.call_fault.CallFault.{CallFault}
use Rattle.script_commands.specs.declared.call_fault.CallFault.TheVariants.{BadBlocks, BadWord, Script}
use Rattle.script_commands.specs.declared.command.Call.{Call}
use Rattle.script_commands.specs.declared.command.Command.TheVariants as command
use Rattle.geos_cli.specs.declared.script.Mode.TheVariants.{Strict}
use Rattle.geos_cli.specs.declared.script.RefusedCommand.{RefusedCommand}
use Rattle.script_commands.specs.CallWords.{IsWhyNoCall}
use Rattle.script_commands.specs.Lines.{call_named, on_line}
use Rattle.geos_cli.specs.Script.{Allows, From, IsAllowed, IsBadImage, Leads, PrintsTo, PrintsUpTo, Stage}

-- the bytes encode an image that the verifier accepts, and the call is of its routine with this name, with the
-- numbers and blocks that the words name
pub record Asks (bytes name : List ℕ) (words : List (List ℕ)) (image : Parts) (call : Call) : Type 0 where
  pub read : image_at bytes ≡ Ok image
  pub accepted : Accepted image
  pub named : call_named image name words ≡ Some call

-- that call runs, or is refused, from stage to stage, and prints the text
abbrev pub RunsCall : Allows → List ℕ → List ℕ → List (List ℕ) → Option RefusedCommand → Stage → Stage → List ℕ → List Kept → Type 0
RunsCall allows bytes name words refused before after text keeps =
    (image : Parts) × (call : Call) × Asks bytes name words image call
    × PrintsTo Strict allows image (on_line 1 (command.Call call) ∷ []) refused before after text keeps

-- that call has come to the stage after and printed the text when the writer fails
abbrev pub StopsCall : Allows → List ℕ → List ℕ → List (List ℕ) → Stage → Stage → List ℕ → List Kept → Type 0
StopsCall allows bytes name words before after text keeps =
    (image : Parts) × (call : Call) × Asks bytes name words image call
    × PrintsUpTo Strict allows image (on_line 1 (command.Call call) ∷ []) before after text keeps

-- the call ran, or was refused, from kernel to kernel, and a writer got its text
abbrev pub RanCall : Type 0 → Within → List ℕ → List ℕ → List (List ℕ) → Option RefusedCommand → KernelState → KernelState
    → Option (List ℕ) → Option (List ℕ) → Type 0
RanCall honest within bytes name words refused kernel later old new =
    (text : List ℕ)
    × Leads honest within kernel later
    (λ before after keeps. From (RunsCall (IsAllowed honest) bytes name words refused before after text) before keeps)
    × Appends old new text

-- the call was stopped by a writer that failed, which got the text up to there
abbrev pub StoppedCall : Type 0 → Within → List ℕ → List ℕ → List (List ℕ) → KernelState → KernelState → Option (List ℕ) → Option (List ℕ) → Type 0
StoppedCall honest within bytes name words kernel later old new =
    (text : List ℕ)
    × Leads honest within kernel later (λ before after keeps. From (StopsCall (IsAllowed honest) bytes name words before after text) before keeps)
    × Appends old new text

-- when such a call ends with a fault: the image's come first, then those of the words
abbrev pub CallEndsBy : List ℕ → List ℕ → List (List ℕ) → CallFault → Type 0
CallEndsBy bytes name words (BadWord at) = (image : Parts) × (image_at bytes ≡ Ok image) × Accepted image × IsWhyNoCall image name words (BadWord at)
CallEndsBy bytes name words (BadBlocks n) = (image : Parts) × (image_at bytes ≡ Ok image) × Accepted image
    × IsWhyNoCall image name words (BadBlocks n)
CallEndsBy bytes name words (Script Write) = (image : Parts) × (call : Call) × Asks bytes name words image call
CallEndsBy bytes name words (Script fault) = IsBadImage bytes fault
