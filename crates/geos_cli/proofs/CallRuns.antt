-- One call that was carried out, or stopped, as the call that words name.
use Rattle.std.proofs.Common.{◌≡◌, ◌∙◌, ℕ, false, List, [], ◌∷◌, Option, Some, None, Ok, refl, sym}
use Rattle.std.specs.Prelude.{is_some}
use Rattle.geos_kernel.specs.View.{KernelState}
use Rattle.geos_image.specs.Parts.{Parts}
use Rattle.geos_image.specs.Reading.{image_at}
use Rattle.geos_verify.specs.Rules.{Accepted}
use Rattle.geos_machine.specs.Runs.{Within}
use Rattle.geos_input.specs.declared.fault.ScriptFault.{ScriptFault}
use Rattle.geos_input.specs.declared.fault.ScriptFault.TheVariants.{TooLong, BadHex, BadImage, Rejected, BadScript, Read, Write, Memory}
use Rattle.script_commands.specs.declared.call_fault.CallFault.TheVariants.{Script}
use Rattle.script_commands.specs.declared.command.Call.{Call}
use Rattle.script_commands.specs.declared.command.Command.TheVariants as command
use Rattle.geos_cli.specs.declared.script.Mode.TheVariants.{Strict}
use Rattle.geos_cli.specs.declared.script.RefusedCommand.{RefusedCommand}
use Rattle.script_commands.specs.Lines.{call_named, on_line}
use Rattle.geos_cli.specs.Script.{From, IsAllowed, IsBadImage, Leads, RanCommands, StoppedCommands}
use Rattle.geos_cli.specs.Calls.{Asks, CallEndsBy, RanCall, RunsCall, StoppedCall, StopsCall}

-- a call that words name may run on an image that was read and accepted
pub asks : (bytes name : List ℕ) (words : List (List ℕ)) (image : Parts) (found : Option Call) (call : Call)
    → (image_at bytes ≡ Ok image) × Accepted image → found ≡ call_named image name words → found ≡ Some call → Asks bytes name words image call
asks bytes name words image found call read named is = record { read = read.0; accepted = read.1; named = sym named ∙ is }

pub is-none : {A : Type 0} (o : Option A) → is_some o ≡ false → o ≡ None
is-none None e = refl
is-none (Some x) e = absurd cc

-- bytes that are no image end the call
pub image-ends : (bytes name : List ℕ) (numbers : List (List ℕ)) (fault : ScriptFault) → IsBadImage bytes fault
    → CallEndsBy bytes name numbers (Script fault)
image-ends bytes name numbers (BadImage at) h = h
image-ends bytes name numbers (Rejected pc rule) h = h
image-ends bytes name numbers Memory h = tt
image-ends bytes name numbers TooLong h = absurd h
image-ends bytes name numbers (BadHex line) h = absurd h
image-ends bytes name numbers (BadScript line) h = absurd h
image-ends bytes name numbers Read h = absurd h
image-ends bytes name numbers Write h = absurd h

module _ (honest : Type 0) (within : Within) (bytes name : List ℕ) (numbers : List (List ℕ)) (image : Parts)
    (call : Call) (kernel later : KernelState)
    (a b : Option (List ℕ)) (asks : Asks bytes name numbers image call) where
  pub call-ran : (refused : Option RefusedCommand) → RanCommands Strict honest within image (on_line 1 (command.Call call) ∷ []) refused kernel later a b
      → RanCall honest within bytes name numbers refused kernel later a b
  call-ran refused (text, leads, appends) = (text, of_call, appends)
    where
      of_call : Leads honest within kernel later
          (λ before after keeps. From (RunsCall (IsAllowed honest) bytes name numbers refused before after text) before keeps)
      of_call f tied =
          let l = leads f tied in
          record {
            file = l.file;
            tied = l.tied;
            lasts = l.lasts;
            keeps = l.keeps;
            does =
                (l.does.0, (image, call, asks, l.does.1), l.does.2);
            stops = l.stops;
          }

  pub call-stopped : StoppedCommands Strict honest within image (on_line 1 (command.Call call) ∷ []) kernel later a b
      → StoppedCall honest within bytes name numbers kernel later a b
  call-stopped (text, leads, appends) = (text, of_call, appends)
    where
      of_call : Leads honest within kernel later
          (λ before after keeps. From (StopsCall (IsAllowed honest) bytes name numbers before after text) before keeps)
      of_call f tied =
          let l = leads f tied in
          record {
            file = l.file;
            tied = l.tied;
            lasts = l.lasts;
            keeps = l.keeps;
            does =
                (l.does.0, (image, call, asks, l.does.1), l.does.2);
            stops = l.stops;
          }
