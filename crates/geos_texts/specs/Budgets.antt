-- Which budgets routines have.
use Rattle.std.specs.Prelude.{◌≡◌, ◌<◌, ◌≤◌, ℕ, Bool, true, List, Option, Some, None, take, unwrap_or, bytes_eq, slice_get}
use Rattle.geos_image.specs.declared.routine.Routine.{Routine}
use Rattle.geos_image.specs.Legal.{text_end}
use Rattle.geos_image.specs.Parts.{Parts}

-- the name of a routine without the zeros after it
abbrev pub name_text : Routine → List ℕ
name_text routine = take (unwrap_or (text_end routine.name) 16) routine.name

-- the routine has the name that is called, or none is named
abbrev pub is_meant : Option (List ℕ) → Routine → Bool
is_meant None routine = true
is_meant (Some name) routine = bytes_eq (name_text routine) name

-- the public routines that may be called have budgets of at most so many steps
abbrev pub IsWithin : Parts → Option (List ℕ) → ℕ → Type 0
IsWithin image called most = (r : ℕ) (routine : Routine) → slice_get image.routines r ≡ Some routine → routine.public ≡ true
    → is_meant called routine ≡ true → routine.budget ≤ most

-- routine r is public, may be called, and has a higher budget
pub record IsOver (image : Parts) (called : Option (List ℕ)) (most r : ℕ) (routine : Routine) : Type 0 where
  pub there : slice_get image.routines r ≡ Some routine
  pub public : routine.public ≡ true
  pub meant : is_meant called routine ≡ true
  pub over : most < routine.budget
