-- The verdict on an image, which the program returns with the explanation.
use Rattle.std.specs.Prelude.{Option, Some, None}
use Rattle.geos_explain.specs.Below.{Parts, Reject, Accepted, FirstRefusal}

-- the refusal is the image's first, or there is none
abbrev pub IsVerdict : Parts → Option Reject → Type 0
IsVerdict image None = Accepted image
IsVerdict image (Some reject) = FirstRefusal image reject
