-- Runs of which notes are taken, on blocks that are locked for them.
use Rattle.std.proofs.Common.{ℕ, refl}
use Rattle.std.specs.Prelude.{◌↔◌}
use Rattle.geos_calls.specs.Effects.{Choice}
use Rattle.geos_calls.specs.VmFile.{VmFile}
use Rattle.vm_file.specs.Device.{Medium}
use Rattle.geos_kernel.specs.Kernel.{IsChosen}
use Rattle.geos_kernel.specs.View.{KernelOn, KernelState, failed_in, memory_of, IsFileOf}
use Rattle.geos_image.specs.Parts.{Parts}
use Rattle.geos_machine.specs.declared.outcome.Outcome.{Outcome}
use Rattle.geos_machine.specs.Runs.{begin, kept_along, Throughout, Within}
use Rattle.geos_machine.specs.Traces.{Notes, Traced}
use Rattle.script_commands.specs.declared.command.Call.{Call as ScriptCall}
use Rattle.script_commands.specs.Lent.{lent_by}
use Rattle.geos_cli.specs.Script.{Allows, IsAllowed, Leads, Locks, Then, Unlocks, Way}
use Rattle.geos_cli.specs.Traced.{TracesLent, TracesOn}
use Rattle.geos_cli.proofs.CommandsRun.{allowed-between}
use Rattle.geos_cli.proofs.LentRuns.{allowed-alike, leads-wider, on-leads, on-unlocked}
use Rattle.geos_cli.proofs.Prints.{Wider, ran-wider}

-- a run of which notes are taken, where more is allowed
traces-wider : (P Q : Allows) → ((before now : ℕ) (choice : Choice) → P before now choice → Q before now choice)
    → (image : Parts) (call : ScriptCall) (outcome : Outcome) (notes : Notes)
    → Wider (TracesOn P image call outcome notes) (TracesOn Q image call outcome notes)
unfolding ran-wider
traces-wider P Q wider image call outcome notes before after keeps (ran, tells, k) = (
  ran-wider (P before.failed after.failed) (Q before.failed after.failed) (wider before.failed after.failed) image
      call.routine call.words call.handles before.memory after.memory outcome ran,
  tells,
  k,
)

-- the machine ran a call from the one kernel to the other, and took notes
abbrev TracesCall : Type 0 → Within → Parts → ScriptCall → Outcome → Notes → Notes → KernelState → KernelState → Type 0
TracesCall honest within image call outcome blank notes kernel later =
    (f : VmFile) → IsFileOf honest kernel f → Traced honest within image call.routine call.words call.handles kernel later outcome blank notes f

traced-leads : (honest : Type 0) (within : Within) (image : Parts) (kernel later : KernelState) (call : ScriptCall) (outcome : Outcome)
    (blank notes : Notes)
    → TracesCall honest within image call outcome blank notes kernel later
    → Leads honest within kernel later (TracesOn (IsAllowed honest) image call outcome notes)
unfolding ran-wider
traced-leads honest within image kernel later call outcome blank notes ran f tied =
    let t = ran f tied in
    let r = t.ran in
    let wide =
    ran-wider (IsChosen honest kernel later) (IsAllowed honest (failed_in kernel) (failed_in later)) (allowed-between honest kernel later r.lasts)
    image call.routine call.words call.handles (memory_of kernel f) (memory_of later r.file) outcome r.ran in
    record {
      file = r.file;
      tied = r.tied;
      lasts = r.lasts;
      keeps = kept_along image r.ran.choices (begin image call.routine call.words call.handles (memory_of kernel f));
      does = (wide, t.tells, refl);
      stops = r.stops;
    }

-- blocks are locked, a routine runs of which notes are taken, and they are unlocked
pub lent-traced : {D : Type 0} (medium : Medium D) (old locked ran new : KernelOn D) → (medium.honest locked.device ↔ medium.honest old.device)
    → (medium.honest ran.device ↔ medium.honest old.device)
    → (image : Parts) (call : ScriptCall) (outcome : Outcome) (blank notes : Notes)
    → Leads (medium.honest old.device) (Throughout medium old.device locked.device) old.core locked.core
    (Locks (IsAllowed (medium.honest old.device)) (lent_by image call))
    → TracesCall (medium.honest locked.device) (Throughout medium locked.device ran.device) image call outcome blank notes locked.core ran.core
    → Leads (medium.honest ran.device) (Throughout medium ran.device new.device) ran.core new.core
    (Unlocks (IsAllowed (medium.honest ran.device)) (lent_by image call))
    → Leads (medium.honest old.device) (Throughout medium old.device new.device) old.core new.core
    (TracesLent (IsAllowed (medium.honest old.device)) image call outcome notes)
lent-traced medium old locked ran new alike alike_ran image call outcome blank notes A R U =
    let was = IsAllowed (medium.honest locked.device) in
    let now = IsAllowed (medium.honest old.device) in
    let lent = lent_by image call in
    let first : Way = Locks now lent in
    on-unlocked medium old ran new alike_ran (Then first (TracesOn now image call outcome notes)) lent
    (on-leads medium old locked ran first (TracesOn now image call outcome notes) A
    (leads-wider (medium.honest locked.device) (medium.honest old.device) alike (Throughout medium locked.device ran.device)
    locked.core ran.core (TracesOn was image call outcome notes) (TracesOn now image call outcome notes)
    (traces-wider was now (allowed-alike (medium.honest locked.device) (medium.honest old.device) alike) image call outcome notes)
    (traced-leads (medium.honest locked.device) (Throughout medium locked.device ran.device) image locked.core ran.core
    call outcome blank notes R))) U
