-- When calls on elements refuse.
use Rattle.std.specs.Prelude.{◌≡◌, Bool, List, Some}
use Rattle.geos_terms.specs.declared.refusal.Refusal.{Refusal}
use Rattle.geos_terms.specs.declared.refusal.Refusal.TheVariants as refusals
use Rattle.geos_terms.specs.Refusals.{first_refusal}
use Rattle.chunk_array.specs.declared.error.ElementError.{ElementError}
use Rattle.chunk_array.specs.declared.error.ElementError.TheVariants.{BadChunk, BadArray, BadElement}

-- the error is that of the first of these tests that refuses
abbrev pub IsElementError : ElementError → List (Bool × Refusal) → Type 0
IsElementError BadChunk tests = first_refusal tests ≡ Some refusals.BadChunk
IsElementError BadArray tests = first_refusal tests ≡ Some refusals.BadArray
IsElementError BadElement tests = first_refusal tests ≡ Some refusals.BadElement
