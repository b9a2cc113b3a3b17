use Rattle.std.specs.Prelude.{◌≡◌, ◌<◌, ℕ, Some, slice_get}
use Rattle.std.specs.Global.{Vec}
use Rattle.geos_image.specs.Parts.{start_of}
use Rattle.tkv_places.specs.declared.placed.Placed.{Placed}
use Rattle.tkv_checks.specs.Checked.{IsCodeOf}
use Rattle.tkv_checks.proofs.checked.first_other.Given as goal

abbrev pub invariant-loop-r : goal.invariant-loop-r
invariant-loop-r l = (q : ℕ) (items : Vec Placed) → q < l.r → slice_get l.fn.placed q ≡ Some items
    → IsCodeOf l.fn.image (start_of l.fn.image.routines q) items.items
