-- An accepted image in version 2.
use Rattle.geos_image.specs.Parts.{Parts}
use Rattle.geos_image.specs.Keys.{keyed_of}
use Rattle.geos_verify.specs.Rules.{IsAcceptable, IsChecked}

-- an image that is accepted with a row at each pc is also accepted in version 2, with rows only at key places
abbrev pub KeptIsAccepted : Type 0
KeptIsAccepted = (image : Parts) → IsAcceptable image → IsChecked (keyed_of image)
