use Rattle.std.specs.Prelude.{◌≡◌, ◌<◌, ◌≤◌, ℕ, None, Some, length, slice_get, slice_index_or}
use Rattle.geos_verify.specs.declared.place.Place.{Place}
use Rattle.geos_verify.specs.Places.{places, RowAt}
use Rattle.geos_verify.specs.Rules.{refusal}
use Rattle.geos_verify.proofs.refused.note_refusals.Given as goal

-- the places before the pc are noted, those before the routine stay, and the row is what is known at the pc
abbrev pub invariant-loop-pc : goal.invariant-loop-pc
invariant-loop-pc l =
    ((pc : ℕ) (place : Place) → l.body.start ≤ pc → pc < l.pc → slice_get (places l.body.image.now) pc ≡ Some place
    → slice_index_or l.rules pc None ≡ refusal l.body.image.now l.body.r l.body.routine.now l.body.start pc place)
    × ((pc : ℕ) → pc < l.body.start → slice_index_or l.rules pc None ≡ slice_index_or l.initial.rules pc None)
    × RowAt l.body.image.now l.pc l.row
    × (length l.rules ≡ 4096)
