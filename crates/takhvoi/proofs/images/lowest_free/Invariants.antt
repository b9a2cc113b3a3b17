use Rattle.std.proofs.Common.{◌≡◌, ◌<◌, ℕ, Some, slice_get}
use Rattle.geos_image.specs.Parts.{Parts}
use Rattle.takhvoi.proofs.images.lowest_free.Given as goal

-- each number so far has an image
abbrev pub invariant-loop-n : goal.invariant-loop-n
invariant-loop-n l = (m : ℕ) → m < l.n → (image : Parts) × (slice_get l.images.items m ≡ Some (Some image))
