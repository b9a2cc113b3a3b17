-- What a routine does, with the routines that it calls.
use Rattle.std.specs.Prelude.{◌≡◌, ◌<◌, ℕ, zero, suc, Bool, true, false, ◌&&◌, ◌||◌, List, [], Some, None, length, take, drop, slice_get, slice_index_or}
use Rattle.std.specs.List.{list_any}
use Rattle.geos_image.specs.declared.routine.Routine.{Routine}
use Rattle.geos_image.specs.Parts.{Parts, start_of}
use Rattle.geos_verify.specs.declared.place.Place.{Place}
use Rattle.geos_verify.specs.Places.{places}
use Rattle.geos_verify.specs.Rules.{HasPoint}
use Rattle.geos_verify.specs.Touched.{calls}
use Rattle.geos_grants.specs.declared.effect.Effect.{Effect}
use Rattle.geos_grants.specs.declared.effects.Effects.{Effects}
use Rattle.geos_grants.specs.declared.routines.Source.{Source}
use Rattle.geos_grants.specs.declared.routines.Source.TheVariants.{Here, Called}
use Rattle.geos_grants.specs.Effects.{does}
use Rattle.geos_grants.specs.Sets.{has, no_effects}

-- the places of a routine
abbrev pub places_of : Parts → ℕ → List Place
places_of image r = elim (slice_get image.routines r) [
  | None ↦ []
  | Some routine ↦ take routine.count (drop (start_of image.routines r) (places image))
]

-- the instruction at a place has the effect, or calls a routine that the table says has it
abbrev pub acts : Effect → (ℕ → Bool) → Place → Bool
acts effect called place = does effect place.instr place.row || (calls place.instr.opcode && called place.instr.imm)

-- routine r has the effect, or one that it reaches by calls does, in a chain of at most so many routines, r among them
abbrev pub has_within : ℕ → Parts → Effect → ℕ → Bool
has_within zero image effect r = false
has_within (suc depth) image effect r = list_any (acts effect (has_within depth image effect)) (places_of image r)

-- routine r has the effect: a chain of calls that comes to no routine twice is no longer than there are routines
abbrev pub has_effect : Parts → Effect → ℕ → Bool
has_effect image effect r = has_within (length image.routines) image effect r

-- a table says that routine r has the effect
abbrev pub noted : List Effects → Effect → ℕ → Bool
noted table effect r = has (slice_index_or table r no_effects) effect

-- routine r has the effect, by what a table says of the routines that it calls
abbrev pub has_by : Parts → List Effects → Effect → ℕ → Bool
has_by image table effect r = list_any (acts effect (noted table effect)) (places_of image r)

-- a table says what the routines below r do
abbrev pub NotesBelow : Parts → List Effects → ℕ → Type 0
NotesBelow image table r = (c : ℕ) (effect : Effect) → c < r → noted table effect c ≡ has_effect image effect c

-- a table says what every routine does
abbrev pub NotesAll : Parts → List Effects → Type 0
NotesAll image table = NotesBelow image table (length image.routines)

-- routine r calls routine c
pub record CallsOne (image : Parts) (r c : ℕ) : Type 0 where
  pub routine : Routine
  pub pc : ℕ
  pub place : Place
  pub has : HasPoint image r routine pc place
  pub calls : calls place.instr.opcode ≡ true
  pub callee : place.instr.imm ≡ c

-- routine r reaches routine q by so many calls
abbrev pub ComesBy : ℕ → Parts → ℕ → ℕ → Type 0
ComesBy zero image r q = r ≡ q
ComesBy (suc n) image r q = (c : ℕ) × CallsOne image r c × ComesBy n image c q

-- the instruction at the pc has the effect, in routine r or in one that it comes to
pub record IsSource (image : Parts) (r : ℕ) (effect : Effect) (pc : ℕ) : Type 0 where
  pub calls : ℕ
  pub in_it : ℕ
  pub comes : ComesBy calls image r in_it
  pub routine : Routine
  pub place : Place
  pub has : HasPoint image in_it routine pc place
  pub does : does effect place.instr place.row ≡ true

-- the instruction at the pc of routine r has the effect; or r calls a routine that the table says has it
abbrev pub IsFrom : Parts → List Effects → Effect → ℕ → Source → Type 0
IsFrom image table effect r (Here pc) = (routine : Routine) × (place : Place) × HasPoint image r routine pc place
    × (does effect place.instr place.row ≡ true)
IsFrom image table effect r (Called c) = CallsOne image r c × (noted table effect c ≡ true)
