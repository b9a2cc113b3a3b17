-- What is known of the counters that routines touch.
use Rattle.std.specs.Prelude.{◌≡◌, ◌<◌, ℕ, Bool, ◌&&◌, nat_lt, List, true, length}
use Rattle.std.specs.List.{list_any}
use Rattle.geos_image.specs.Parts.{Parts}
use Rattle.geos_verify.specs.Touched.{noted, points_of, touches, touches_here}
use Rattle.geos_counters.specs.declared.spent.Touching.{Touching}

-- a table says only what routines do touch
abbrev pub NotesTouched : Parts → List (List Bool) → Type 0
NotesTouched image table = (k r : ℕ) → noted table k r ≡ true → touches image k r ≡ true

-- a routine touches a counter itself, or calls one before it of which a table says that it does
abbrev pub touches_by_those_before : Parts → List (List Bool) → ℕ → ℕ → Bool
touches_by_those_before image table k r =
    list_any (λ point. touches_here (λ c. nat_lt c r && noted table k c) k point.instr) (points_of image r)

-- a table says of each routine all that it touches so
abbrev pub NotesOwn : Parts → List (List Bool) → Type 0
NotesOwn image table = (k r : ℕ) → k < 4 → r < length image.routines → touches_by_those_before image table k r ≡ true → noted table k r ≡ true

-- a table says all that routines touch, and perhaps more
abbrev pub NotesAllTouched : Parts → List (List Bool) → Type 0
NotesAllTouched image table = (k r : ℕ) → k < 4 → touches image k r ≡ true → noted table k r ≡ true

-- what is known of the counters that routines touch is true
pub record KnowsTouched (image : Parts) (touching : Touching) : Type 0 where
  pub certain : NotesTouched image touching.certain
  pub possible : NotesAllTouched image touching.possible
