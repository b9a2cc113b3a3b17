-- Orders of places, and pieces of these orders.
use Rattle.std.specs.Prelude.{◌≡◌, ◌≤◌, ◌<◌, ℕ, slice_index, slice_index_or}
use Rattle.control_graph.specs.declared.pieces.Order.{Order}
use Rattle.control_graph.specs.declared.pieces.Piece.{Piece}
use Rattle.control_graph.specs.declared.place.Place.{Place}

-- this place has position x in the order
abbrev pub StandsAt : Order → ℕ → ℕ → Type 0
StandsAt order x pc = (other : Place) → (slice_index_or order.places x other).pc ≡ pc

-- a piece has a place
abbrev pub HasPlace : Order → Piece → ℕ → Type 0
HasPlace order piece pc = (piece.begin ≤ slice_index order.at pc) × (slice_index order.at pc < piece.end)
