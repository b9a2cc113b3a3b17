-- What a successful check of a routine's code means.
use Rattle.std.specs.Prelude.{◌≡◌, ℕ, Some, List, length, slice_get}
use Rattle.std.specs.Global.{Vec}
use Rattle.geos_image.specs.Parts.{Parts, start_of}
use Rattle.tkv_places.specs.declared.placed.Placed.{Placed}
use Rattle.tkv_meaning.specs.Statements.{Stmt, IsFormed}
use Rattle.tkv_meaning.specs.Code.{IsRoutineCode}
use Rattle.tkv_checks.specs.Items.{SpellsRoutine}

-- the items are a routine's, and its code begins at a pc of the image
pub record IsCodeOf (image : Parts) (start : ℕ) (items : List Placed) : Type 0 where
  pub body : Stmt
  pub spells : SpellsRoutine items body
  pub formed : IsFormed body
  pub code : IsRoutineCode image body start

-- the image has as many routines as are placed, and each begins with the code of the placed one of its number
pub record IsWritten (image : Parts) (placed : List (Vec Placed)) : Type 0 where
  pub count : length placed ≡ length image.routines
  pub coded : (r : ℕ) (items : Vec Placed) → slice_get placed r ≡ Some items → IsCodeOf image (start_of image.routines r) items.items
