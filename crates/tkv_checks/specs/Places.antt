-- Places in code, and the exits of open blocks.
use Rattle.std.specs.Prelude.{◌≡◌, ◌<◌, ◌==◌, ℕ, zero, suc, Option, Some, None, List, slice_get}
use Rattle.geos_image.specs.Parts.{Parts}
use Rattle.tkv_meaning.specs.Code.{Comes, chosen, Has, Returns, Nowhere}
use Rattle.tkv_checks.specs.declared.places.Place.{Place}
use Rattle.tkv_checks.specs.declared.places.Place.TheVariants as place
use Rattle.tkv_checks.specs.declared.places.Open.{Open}
use Rattle.tkv_checks.specs.declared.places.Open.TheVariants.{Block, Turns, Closing}

-- jumps lead from a pc to the place
abbrev pub IsAt : Parts → Place → ℕ → Type 0
IsAt image place.Nowhere p = Nowhere p
IsAt image (place.At c) p = Comes image (λ q. q ≡ c) p
IsAt image place.Returned p = Returns image p

-- the first place is the second one, or no place
abbrev pub IsWithin : Place → Place → Type 0
IsWithin place.Nowhere other = Unit {0}
IsWithin one other = one ≡ other

-- the pcs that lead to the end of block l, through the item that is open at level d
abbrev pub through : Parts → Option Open → ℕ → (ℕ → ℕ → Type 0) → ℕ → ℕ → Type 0
through image None d exits l = exits l
through image (Some (Block end)) d exits l = chosen (l == d) (IsAt image end) (exits l)
through image (Some Turns) d exits l = exits l
through image (Some (Closing i)) d exits l = Has image i (exits l)

-- the pcs that lead to the end of block l, from within the first d open items
abbrev pub exits_at : Parts → List Open → ℕ → ℕ → ℕ → Type 0
exits_at image around zero l = Nowhere
exits_at image around (suc d) l = through image (slice_get around d) d (exits_at image around d) l

-- what is open is the same, but the end of a block may be known now
abbrev pub IsGrown : Option Open → Option Open → Type 0
IsGrown (Some (Block one)) (Some (Block other)) = IsWithin one other
IsGrown one other = one ≡ other

-- all that is open is the same, but ends of blocks may be known now
abbrev pub AreGrown : List Open → List Open → Type 0
AreGrown old new = (i : ℕ) → IsGrown (slice_get old i) (slice_get new i)

-- the same of the first so many
abbrev pub Grows : ℕ → List Open → List Open → Type 0
Grows d old new = (i : ℕ) → i < d → IsGrown (slice_get old i) (slice_get new i)
