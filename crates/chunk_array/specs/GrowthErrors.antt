-- When calls that may need more room refuse.
use Rattle.std.specs.Prelude.{◌≡◌, ℕ, Bool, List, Some, None}
use Rattle.geos_terms.specs.declared.refusal.Refusal.{Refusal}
use Rattle.geos_terms.specs.declared.refusal.Refusal.TheVariants as refusals
use Rattle.geos_terms.specs.Refusals.{first_refusal}
use Rattle.lmem_heap.specs.Refusals.{IsRoomError}
use Rattle.chunk_array.specs.declared.error.AppendError.{AppendError}
use Rattle.chunk_array.specs.declared.error.AppendError.TheVariants as append
use Rattle.chunk_array.specs.declared.error.GrowthError.{GrowthError}
use Rattle.chunk_array.specs.declared.error.GrowthError.TheVariants.{BadChunk, BadArray, BadElement, Room}

-- the error is that of the first of these tests that refuses; or none
-- refuses, and a block of this size has no room for what is needed
abbrev pub IsGrowthError : GrowthError → List (Bool × Refusal) → ℕ → ℕ → Type 0
IsGrowthError BadChunk tests needed size = first_refusal tests ≡ Some refusals.BadChunk
IsGrowthError BadArray tests needed size = first_refusal tests ≡ Some refusals.BadArray
IsGrowthError BadElement tests needed size = first_refusal tests ≡ Some refusals.BadElement
IsGrowthError (Room room) tests needed size = (first_refusal tests ≡ None) × IsRoomError room needed size

-- the error of an append, as an error of calls that name an element
abbrev pub as_growth_error : AppendError → GrowthError
as_growth_error append.BadChunk = BadChunk
as_growth_error append.BadArray = BadArray
as_growth_error (append.Room room) = Room room
