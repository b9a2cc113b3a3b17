-- Which words a routine may be called with, and what it borrows.
use Rattle.std.specs.Prelude.{ℕ, Bool, false, ◌&&◌, nat_le, Some, None, List, [], slice_get}
use Rattle.geos_image.specs.declared.routine.Routine.{Routine}
use Rattle.geos_image.specs.declared.row.SlotState.{SlotState}
use Rattle.geos_image.specs.Parts.{Parts}
use Rattle.geos_verify.specs.Lists.{all2}

-- the routine is public, and each word is within its entry bound
abbrev pub may_call : Routine → List ℕ → Bool
may_call routine words = routine.public && all2 nat_le words routine.entry.bounds

-- there is such a routine that may be called with the words
abbrev pub admits : Parts → ℕ → List ℕ → Bool
admits image r words = elim (slice_get image.routines r) [ None ↦ false | Some routine ↦ may_call routine words ]

-- what the entry row of routine r says of slots
abbrev pub entry_slots : Parts → ℕ → List SlotState
entry_slots image r = elim (slice_get image.routines r) [ None ↦ [] | Some routine ↦ routine.entry.slots ]
