-- That some image with a code is accepted.
use Rattle.geos_image.specs.Parts.{Parts}
use Rattle.geos_image.specs.Ranges.{ImageFits}
use Rattle.geos_verify.specs.Rules.{IsChecked}
use Rattle.geos_code.specs.Code.{SameCode}

-- some image with the code of this one is accepted, and its numbers fit their fields
pub record HasAccepted (image : Parts) : Type 0 where
  pub other : Parts
  pub same : SameCode image other
  pub fits : ImageFits other
  pub checked : IsChecked other
