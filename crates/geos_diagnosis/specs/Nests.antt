-- Nests that were paid for again and again.
use Rattle.std.specs.Prelude.{◌≡◌, ◌<◌, ℕ, true, slice_index_or}
use Rattle.control_graph.specs.declared.jumps.Jump.TheVariants.{Plain, Pays}
use Rattle.control_graph.specs.declared.pieces.Piece.{Piece}
use Rattle.geos_potentials.specs.declared.nests.Splitting.{Splitting}
use Rattle.geos_potentials.specs.declared.nests.Nest.{Nest}

-- the LOOP at a pc pays in a nest for which the predicate `such` is true
abbrev pub PaysInSuch : Splitting → ℕ → (Nest → Type 0) → Type 0
PaysInSuch splitting pc such = (id : ℕ) × (slice_index_or splitting.jumps pc Plain ≡ Pays id)
    × ((other : Nest) → such (slice_index_or splitting.nests.list id other))

-- the nest was paid for more than twice
abbrev pub WasPaidAgain : Nest → Type 0
WasPaidAgain nest = 2 < nest.paid

-- the nest was paid for again and again, it has this piece, and its counter is set there
abbrev pub IsTightAt : Piece → Nest → Type 0
IsTightAt piece nest = WasPaidAgain nest × (nest.tight ≡ true) × (nest.piece ≡ piece)
