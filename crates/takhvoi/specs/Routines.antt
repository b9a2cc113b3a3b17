-- What a debugger is shown of an image.
use Rattle.std.specs.Prelude.{◌≡◌, ◌⊎◌, ℕ, true, false, List, length, map, Option, option_map, slice_get}
use Rattle.geos_image.specs.Parts.{Parts, start_of}
use Rattle.geos_image.specs.declared.routine.Routine.{Routine}
use Rattle.geos_image.specs.declared.row.SlotState.{SlotState}
use Rattle.geos_image.specs.declared.row.SlotState.TheVariants.{Empty, Mem, Vm, Db}
use Rattle.takhvoi.specs.declared.routines.RoutineEntry.{RoutineEntry}
use Rattle.takhvoi.specs.declared.system.System.{System}
use Rattle.takhvoi.specs.Images.{StandsFor}
use Rattle.takhvoi.specs.Records.{Shows, flag, records_below}

-- the number of what a slot holds
abbrev pub slot_number : SlotState → ℕ
slot_number Empty = 0
slot_number Mem = 1
slot_number (Vm false false) = 2
slot_number (Vm true false) = 3
slot_number (Vm false true) = 6
slot_number (Vm true true) = 7
slot_number (Db false) = 4
slot_number (Db true) = 5

-- the routine of an image with a number
abbrev pub routine_in : Parts → ℕ → Option RoutineEntry
routine_in image r =
    option_map (λ (routine : Routine). record {
      name = routine.name;
      is_public = flag routine.public;
      first = start_of image.routines r;
      length = routine.count;
      budget = routine.budget;
      bounds = routine.entry.bounds;
      slots = map slot_number routine.entry.slots;
    }) (slice_get image.routines r)

-- these are all routines of the image
abbrev pub AreRoutines : Parts → List RoutineEntry → Type 0
AreRoutines image routines = routines ≡ records_below (routine_in image) (length image.routines)

-- the routines of the image with this number are shown; or the status is 114, and there is no such image; or it is 111. Nothing changes
abbrev pub TellsRoutines : ℕ → ℕ → List RoutineEntry → List RoutineEntry → ℕ → System → System → Type 0
TellsRoutines n count before after status old new =
    (new ≡ old)
    × (status ≡ 0 → (image : Parts) × StandsFor old n image × Shows (AreRoutines image) count before after)
    × ((status ≡ 0 → ⊥) → (status ≡ 111) ⊎ ((status ≡ 114) × ((image : Parts) → StandsFor old n image → ⊥)))
