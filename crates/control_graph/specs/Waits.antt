-- Which places wait.
use Rattle.std.specs.Prelude.{◌≡◌, ℕ, true, false, slice_index_or}
use Rattle.control_graph.specs.declared.pile.Pile.{Pile}

-- a place waits
abbrev pub Waits : Pile → ℕ → Type 0
Waits pile pc = slice_index_or pile.has pc false ≡ true
