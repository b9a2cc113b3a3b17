-- From the names of a source to the output of a run.
use Rattle.std.specs.Prelude.{◌≡◌, ℕ, Some, List, length, slice_get}
use Rattle.std.specs.Global.{Vec}
use Rattle.geos_calls.specs.VmFile.{VmFile}
use Rattle.geos_image.specs.Parts.{Parts}
use Rattle.vm_file.specs.Device.{Medium}
use Rattle.geos_kernel.specs.View.{KernelOn, IsFileOf}
use Rattle.geos_machine.specs.declared.outcome.Outcome.{Outcome}
use Rattle.geos_machine.specs.Runs.{Gave}
use Rattle.tkv_syntax.specs.declared.item.Item.{Item}
use Rattle.tkv_places.specs.declared.placed.Placed.{Placed}
use Rattle.tkv_checks.specs.Checked.{IsWritten}
use Rattle.tkv_names.specs.Named.{Outputs}
use Rattle.tkv_names.specs.Seen.{MeansNamed}

-- if an image has the code of placed routines, and the placed routine r means what the items of a source say of a routine, as `means_named`
-- promises, then a run of routine r, as `run_in_place` gives it, output what the routine of the source may output
abbrev pub CoveredRunsAsNamed : {D : Type 0} → Medium D → Type 0
CoveredRunsAsNamed {D} medium = (image : Parts) (placed : List (Vec Placed)) → IsWritten image placed
    → (r : ℕ) (items : Vec Placed) → slice_get placed r ≡ Some items
    → (text : List ℕ) (source : List Item) (index : ℕ) → MeansNamed text source index items.items
    → (words handles : List ℕ) → length words ≡ 8 → (old new : KernelOn D) (outcome : Outcome) → Gave medium image r words handles old new outcome
    → (f : VmFile) → IsFileOf (medium.honest old.device) old.core f
    → Outputs text source index words outcome.output.items
