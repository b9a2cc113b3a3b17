-- Turns of places, as they are read.
use Rattle.std.proofs.Common.{◌≡◌, ◌<◌, ℕ, length, Option, Some, None, refl, ap}
use Rattle.std.specs.Prelude.{slice_index_or}
use Rattle.std.proofs.lemmas.Option.{slice_get_read}
use Rattle.geos_rows.specs.declared.order.Order.{Order}
use Rattle.geos_rows.specs.declared.order.Place.{Place}
use Rattle.geos_rows.specs.declared.order.Turn.{Turn}
use Rattle.geos_rows.specs.Turns.{place_at, turn_at}

-- what an item says, if there is one
abbrev number : Option Turn → ℕ
number turn = elim turn [ None ↦ 0 | Some it ↦ it.turn ]

abbrev place : Option Place → ℕ
place found = elim found [ None ↦ 0 | Some it ↦ it.pc ]

-- what is read of a table
pub turn-read : (order : Order) (pc : ℕ) (turn : Turn) → pc < length order.turns → turn ≡ slice_index_or order.turns pc turn
    → turn_at order pc ≡ turn.turn
turn-read order pc turn inside is = ap number (slice_get_read order.turns (length order.turns) pc turn refl inside is)

pub place-read : (order : Order) (turn : ℕ) (at : Place) → turn < length order.places → at ≡ slice_index_or order.places turn at
    → place_at order turn ≡ at.pc
place-read order turn at inside is = ap place (slice_get_read order.places (length order.places) turn at refl inside is)
