-- The results of loading and running images.
use Rattle.std.specs.Prelude.{◌≡◌, ◌⊎◌, ◌<◌, ◌≤◌, ℕ, [], false, true, Option, Some, None, IfSome, IsSomeAnd, List, length, take, unwrap_or, slice_get}
use Rattle.std.specs.Prelude.{Ok}
use Rattle.lmem_raw.specs.Bytes.{with_part}
use Rattle.geos_image.specs.Legal.{text_end}
use Rattle.geos_image.specs.Parts.{Parts}
use Rattle.geos_image.specs.Reading.{image_at}
use Rattle.geos_image.specs.declared.routine.Routine.{Routine}
use Rattle.geos_verify.specs.Entry.{admits, entry_slots}
use Rattle.geos_verify.specs.declared.rule.Reject.{Reject}
use Rattle.geos_verify.specs.Rules.{FirstRefusal, IsChecked}
use Rattle.geos_verify.specs.RuleText.{rule_number}
use Rattle.geos_calls.specs.VmFile.{VmFile}
use Rattle.geos_kernel.specs.View.{IsFileOf, memory_of}
use Rattle.geos_machine.specs.declared.outcome.Outcome.{Outcome}
use Rattle.geos_machine.specs.Lent.{Lends}
use Rattle.geos_machine.specs.Runs.{OpensAsOneOf, RanWith, Throughout, begin, kept_along}
use Rattle.geos_grants.specs.declared.effect.Effect.{Effect}
use Rattle.geos_grants.specs.declared.effects.Effects.{Effects}
use Rattle.geos_grants.specs.declared.granted.Excess.{Excess}
use Rattle.geos_grants.specs.Grants.{IsExcess, IsGranted, IsGrantedBelow}
use Rattle.geos_grants.specs.Routines.{has_effect}
use Rattle.geos_grants.specs.Sets.{has}
use Rattle.granted_runs.specs.Keeps.{RanWithin}
use Rattle.host_device.specs.Journal.{bytes_of, journal_of, medium}
use Rattle.host_device.specs.declared.device.HostDevice.{HostDevice}
use Rattle.takhvoi.specs.declared.system.System.{System}
use Rattle.takhvoi.specs.declared.handle.Handle.{Handle}
use Rattle.takhvoi.specs.Answers.{Done, On}
use Rattle.takhvoi.specs.Bits.{bit_of, bits_of, effects_in}
use Rattle.takhvoi.specs.Journal.{IsUnbegun, Leads, MayStopAt}
use Rattle.takhvoi.specs.Own.{IsPending}

-- the image has this number
abbrev pub StandsFor : System → ℕ → Parts → Type 0
StandsFor system n image = slice_get system.images.items n ≡ Some (Some image)

-- no image has the number, and each lower number has one
pub record IsLowestFree (images : List (Option Parts)) (n : ℕ) : Type 0 where
  pub free : (image : Parts) → slice_get images n ≡ Some (Some image) → ⊥
  pub lower : (m : ℕ) → m < n → (image : Parts) × (slice_get images m ≡ Some (Some image))

-- the kernel is as before, and each image has its number as before
pub record Keeps (old new : System) : Type 0 where
  pub kernel : new.kernel ≡ old.kernel
  pub hosted : new.hosted ≡ old.hosted
  pub images : (n : ℕ) (image : Parts) → StandsFor old n image → StandsFor new n image

-- 0, 111, 112 or 113
abbrev pub LoadsOrTells : ℕ → Type 0
LoadsOrTells status = (status ≡ 0) ⊎ ((status ≡ 111) ⊎ ((status ≡ 112) ⊎ (status ≡ 113)))

-- if it is done, the bytes encode an image that the verifier accepts, and the image has this number, the lowest that was free; the kernel and
-- the other images stay
abbrev pub IsLoaded : List ℕ → ℕ → ℕ → System → System → Type 0
IsLoaded bytes n status old new =
    (status ≡ 0 → (image : Parts) × (image_at bytes ≡ Ok image) × IsLowestFree old.images.items n × StandsFor new n image)
    × LoadsOrTells status × Keeps old new

-- the same, and the image's public routines do only what is granted; if one does more, the status is 116
abbrev pub IsLoadedGranted : List ℕ → ℕ → ℕ → ℕ → System → System → Type 0
IsLoadedGranted bytes grants n status old new =
    (status ≡ 0 → (image : Parts) × (image_at bytes ≡ Ok image) × IsLowestFree old.images.items n × StandsFor new n image
    × IsGranted image (effects_in grants))
    × ((status ≡ 116) ⊎ LoadsOrTells status) × Keeps old new

-- the bytes encode an image that the verifier accepts. The instruction at this place has this effect, which is not granted: in this public routine, or in one that
-- it reaches by calls. Each public routine before it does only what is granted
abbrev pub IsDenied : List ℕ → ℕ → ℕ → ℕ → ℕ → Type 0
IsDenied bytes grants place r bit =
    (image : Parts) × (excess : Excess) × (image_at bytes ≡ Ok image) × IsChecked image × IsExcess image (effects_in grants) excess × (place ≡ excess.pc)
    × (r ≡ excess.routine) × (bit ≡ bit_of excess.effect) × IsGrantedBelow image (effects_in grants) r

-- the bits are those of the routine's effects, with the effects of the routines that it calls; or the answer is 114, and there is no such image
-- or routine
abbrev pub TellsEffects : ℕ → ℕ → ℕ → ℕ → System → System → Type 0
TellsEffects n r told status old new =
    (new ≡ old)
    × (status ≡ 0 → (image : Parts) × (effects : Effects) × StandsFor old n image × (r < length image.routines) × (told ≡ bits_of effects)
    × ((effect : Effect) → has effects effect ≡ has_effect image effect r))
    × ((status ≡ 0 → ⊥) → (status ≡ 114) × ((image : Parts) → StandsFor old n image → length image.routines ≤ r))

-- the number is the routine's budget; or the answer is 114, and there is no such image or routine
abbrev pub TellsBudget : ℕ → ℕ → ℕ → ℕ → System → System → Type 0
TellsBudget n r told status old new =
    (new ≡ old)
    × (status ≡ 0 → (image : Parts) × StandsFor old n image × IsSomeAnd (slice_get image.routines r) (λ routine. told ≡ routine.budget))
    × ((status ≡ 0 → ⊥) → (status ≡ 114) × ((image : Parts) → StandsFor old n image → length image.routines ≤ r))

-- if it is done, no image has the number; the kernel and the other images stay. Otherwise the status is 114, no image had the number, and
-- nothing changes
abbrev pub IsUnloaded : ℕ → ℕ → System → System → Type 0
IsUnloaded n status old new =
    (new.kernel ≡ old.kernel) × (new.hosted ≡ old.hosted)
    × (status ≡ 0 → slice_get new.images.items n ≡ Some None)
    × ((m : ℕ) (image : Parts) → (m ≡ n → ⊥) → StandsFor old m image → StandsFor new m image)
    × ((status ≡ 0 → ⊥) → (status ≡ 114) × (new ≡ old) × ((image : Parts) → StandsFor old n image → ⊥))

-- the bytes encode an image, and this is the first instruction that a rule refuses, with the lowest rule that refuses it
abbrev pub IsRejected : List ℕ → ℕ → ℕ → Type 0
IsRejected bytes place rule =
    (image : Parts) × (reject : Reject) × (image_at bytes ≡ Ok image) × FirstRefusal image reject × (place ≡ reject.pc)
    × (rule ≡ rule_number reject.rule)

-- 114: there is no image with this number whose routine admits these words and is lent these blocks
abbrev pub NotAdmitted : ℕ → ℕ → List ℕ → List ℕ → ℕ → System → Type 0
NotAdmitted n routine words handles status s =
    (status ≡ 114) × ((image : Parts) → StandsFor s n image → admits image routine words ≡ true
    → Lends s.kernel.core (entry_slots image routine) handles → ⊥)

-- 106 or 114: the run may not begin
abbrev pub MayNotRun : ℕ → ℕ → List ℕ → List ℕ → ℕ → System → Type 0
MayNotRun n routine words handles status s = NotAdmitted n routine words handles status s ⊎ IsPending status s

-- an accepted image has the number, and the model's run of its routine, on these words and with these blocks lent, meets no fault. It results in
-- these words, this output at the beginning of the buffer, whose rest stays, this count and this number of steps. For any grants: if the
-- routine does only what is granted, what is not granted is as before. Nothing was noted before the run. Its notes, performed on a host's bytes,
-- result in the device's bytes. If the host stops while it performs them, its file opens as what was committed in one of the run's states
pub record HasRun (n routine : ℕ) (words handles after room output : List ℕ) (count steps status : ℕ) (old new : System) : Type 0 where
  pub done : status ≡ 0
  pub image : Parts
  pub loaded : StandsFor old n image
  pub outcome : Outcome
  pub left : HostDevice
  pub ran : (f : VmFile) → IsFileOf (Unit {0}) old.kernel.core f
      → RanWith (Unit {0}) (Throughout medium old.kernel.device left) image routine words handles old.kernel.core new.kernel.core outcome f
  pub granted : (f : VmFile) → IsFileOf (Unit {0}) old.kernel.core f
      → RanWithin (Unit {0}) (Throughout medium old.kernel.device left) image routine words handles old.kernel.core new.kernel.core outcome f
  pub device : old.hosted ≡ true → new.kernel.device ≡ left
  pub begins : journal_of old.kernel.device ≡ []
  pub leads : old.hosted ≡ true → Leads (bytes_of old.kernel.device) new.kernel.device
  pub stops : old.hosted ≡ true → (f : VmFile) (is : IsFileOf (Unit {0}) old.kernel.core f) (c : List ℕ) → MayStopAt new.kernel.device c
      → OpensAsOneOf (kept_along image (ran f is).ran.choices (begin image routine words handles (memory_of old.kernel.core f))) c
  pub alone : old.hosted ≡ false → journal_of new.kernel.device ≡ []
  pub words_out : after ≡ outcome.words
  pub put_out : output ≡ with_part room 0 outcome.output.items
  pub count_is : count ≡ length outcome.output.items
  pub steps_are : steps ≡ outcome.steps
  pub within : IfSome (slice_get image.routines routine) (λ r. steps ≤ r.budget)

-- the run was performed; or the allocator refused the memory for its notes, and it did not begin
abbrev pub RunsOrNot : ℕ → ℕ → List ℕ → List ℕ → List ℕ → List ℕ → List ℕ → ℕ → ℕ → ℕ → System → System → Type 0
RunsOrNot n routine words handles after room output count steps status old new =
    HasRun n routine words handles after room output count steps status old new ⊎ IsUnbegun status old new

-- the run on a kernel, or why it does not begin
abbrev pub EndsRun : ℕ → ℕ → List ℕ → List ℕ → List ℕ → List ℕ → List ℕ → ℕ → ℕ → ℕ → System → System → Type 0
EndsRun n routine words handles after room output count steps =
    Done (MayNotRun n routine words handles) (RunsOrNot n routine words handles after room output count steps)

-- the same on the kernel of a handle
abbrev pub ServesRun : ℕ → ℕ → List ℕ → List ℕ → List ℕ → List ℕ → List ℕ → ℕ → ℕ → ℕ → Handle → Handle → Type 0
ServesRun n routine words handles after room output count steps status =
    On (EndsRun n routine words handles after room output count steps status) status

-- the routine has this name
abbrev pub IsNamed : List ℕ → Routine → Type 0
IsNamed name routine = take (unwrap_or (text_end routine.name) 16) routine.name ≡ name

-- there is an image with this number, and its routine r has this name
abbrev pub HasRoutine : System → ℕ → List ℕ → ℕ → Type 0
HasRoutine system n name r = (image : Parts) × StandsFor system n image × IsSomeAnd (slice_get image.routines r) (IsNamed name)

-- no routine of the image has this name
abbrev pub NoneIsNamed : List ℕ → Parts → Type 0
NoneIsNamed name image = (r : ℕ) → IfSome (slice_get image.routines r) (λ routine. IsNamed name routine → ⊥)

-- r is the image's routine with this name; or the status is 114, and there is no image or none of its routines has the name
abbrev pub FindsRoutine : ℕ → List ℕ → ℕ → ℕ → System → System → Type 0
FindsRoutine n name r status old new =
    (new ≡ old) × (status ≡ 0 → HasRoutine old n name r)
    × ((status ≡ 0 → ⊥) → (status ≡ 114) × ((image : Parts) → StandsFor old n image → NoneIsNamed name image))
