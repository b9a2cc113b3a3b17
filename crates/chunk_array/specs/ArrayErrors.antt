-- When calls on arrays refuse.
use Rattle.std.specs.Prelude.{◌≡◌, Bool, List, Some}
use Rattle.geos_terms.specs.declared.refusal.Refusal.{Refusal}
use Rattle.geos_terms.specs.declared.refusal.Refusal.TheVariants as refusals
use Rattle.geos_terms.specs.Refusals.{first_refusal}
use Rattle.chunk_array.specs.declared.error.ArrayError.{ArrayError}
use Rattle.chunk_array.specs.declared.error.ArrayError.TheVariants.{BadChunk, BadArray}

-- the error is that of the first of these tests that refuses
abbrev pub IsArrayError : ArrayError → List (Bool × Refusal) → Type 0
IsArrayError BadChunk tests = first_refusal tests ≡ Some refusals.BadChunk
IsArrayError BadArray tests = first_refusal tests ≡ Some refusals.BadArray
