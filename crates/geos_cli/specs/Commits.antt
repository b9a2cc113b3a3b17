-- When what was printed is given, and what calls that may not commit leave.
use Rattle.std.specs.Prelude.{◌≡◌, ℕ, false, All, List}
use Rattle.geos_image.specs.Parts.{Parts}
use Rattle.geos_calls.specs.Memory.{Memory}
use Rattle.geos_calls.specs.Effects.{Choice}
use Rattle.geos_verify.specs.Rules.{IsChecked}
use Rattle.geos_semantics.specs.State.{State}
use Rattle.geos_semantics.specs.Model.{Returned, run}
use Rattle.geos_machine.specs.Runs.{begin, kept_along}
use Rattle.script_commands.specs.MayCommit.{may_commit}
use Rattle.script_commands.specs.declared.command.Call.{Call}
use Rattle.script_commands.specs.declared.command.Command.TheVariants as command

-- a call's run in this memory, under these choices, leaves what the device holds as it was, in each state that it
-- passes and in the last one
pub record KeepsKept (image : Parts) (call : Call) (memory : Memory) (choices : List Choice) : Type 0 where
  pub along : All (λ kept. kept ≡ memory.file.kept) (kept_along image choices (begin image call.routine call.words call.handles memory))
  pub behind : (steps : ℕ) (last : State) → run image 0 choices 0 (begin image call.routine call.words call.handles memory) ≡ Returned steps last
      → last.memory.file.kept ≡ memory.file.kept

-- so it is of each call of an accepted image that may not commit, whatever comes from outside
abbrev pub OtherCallsKeep : Type 0
OtherCallsKeep = (image : Parts) → IsChecked image → (call : Call) → may_commit image (command.Call call) ≡ false
    → (memory : Memory) (choices : List Choice) → KeepsKept image call memory choices
