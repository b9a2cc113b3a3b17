-- Which images have the code of a text.
use Rattle.std.specs.Prelude.{◌≡◌, ℕ, List, map, Ok}
use Rattle.geos_image.specs.Parts.{Parts, instrs_of}
use Rattle.geos_source.specs.Texts.{Code, code_of}
use Rattle.geos_source.specs.Skeletons.{routine_of}

-- the image has exactly this code
pub record HasCode (code : Code) (image : Parts) : Type 0 where
  pub routines : image.routines ≡ map routine_of code.routines
  pub instrs : instrs_of image.points ≡ code.instrs

-- the text has no fault, and the image has its code
pub record IsTextOf (image : Parts) (text : List ℕ) : Type 0 where
  pub code : Code
  pub read : code_of text ≡ Ok code
  pub has : HasCode code image
