-- What it means that an image does only what was granted.
use Rattle.std.specs.Prelude.{◌≡◌, ◌<◌, ℕ, Bool, true, false, ◌&&◌, not, if◌then◌else◌, Option, Some, None, slice_get}
use Rattle.geos_image.specs.declared.routine.Routine.{Routine}
use Rattle.geos_image.specs.Parts.{Parts}
use Rattle.geos_grants.specs.declared.effect.Effect.{Effect}
use Rattle.geos_grants.specs.declared.effect.Effect.TheVariants.{Output, Memory, LocksByHandle, ReadsFile, ChangesFile, Map, Commits}
use Rattle.geos_grants.specs.declared.effects.Effects.{Effects}
use Rattle.geos_grants.specs.declared.granted.Excess.{Excess}
use Rattle.geos_grants.specs.Routines.{has_effect, IsSource}
use Rattle.geos_grants.specs.Sets.{has}

-- routine r does only what is granted
abbrev pub DoesOnly : Parts → Effects → ℕ → Type 0
DoesOnly image grants r = (effect : Effect) → has_effect image effect r ≡ true → has grants effect ≡ true

-- each public routine before the one with this number does only what is granted
abbrev pub IsGrantedBelow : Parts → Effects → ℕ → Type 0
IsGrantedBelow image grants r = (q : ℕ) (routine : Routine) → q < r → slice_get image.routines q ≡ Some routine → routine.public ≡ true
    → DoesOnly image grants q

-- each public routine does only what is granted
abbrev pub IsGranted : Parts → Effects → Type 0
IsGranted image grants = (r : ℕ) (routine : Routine) → slice_get image.routines r ≡ Some routine → routine.public ≡ true → DoesOnly image grants r

-- a public routine has an effect that is not granted, by the instruction at the pc, in itself or in a routine that it comes to
pub record IsExcess (image : Parts) (grants : Effects) (excess : Excess) : Type 0 where
  pub routine : Routine
  pub there : slice_get image.routines excess.routine ≡ Some routine
  pub public : routine.public ≡ true
  pub source : IsSource image excess.routine excess.effect excess.pc
  pub denied : has grants excess.effect ≡ false

-- the effect is found and not granted
abbrev pub is_beyond : Effects → Effects → Effect → Bool
is_beyond found grants effect = has found effect && not (has grants effect)

-- the first effect on nothing lent that is found and not granted
abbrev pub plain_beyond : Effects → Effects → Option Effect
plain_beyond found grants =
    if is_beyond found grants Output then Some Output
    else if is_beyond found grants Memory then Some Memory
    else if is_beyond found grants LocksByHandle then Some LocksByHandle
    else if is_beyond found grants ReadsFile then Some ReadsFile
    else if is_beyond found grants ChangesFile then Some ChangesFile
    else if is_beyond found grants Map then Some Map
    else if is_beyond found grants Commits then Some Commits
    else None
