-- The four counters.
use Rattle.std.specs.Prelude.{ℕ, Bool, false, List, [], ◌∷◌, slice_index_or}

-- no counter counts
abbrev pub zeros : List ℕ
zeros = 0 ∷ 0 ∷ 0 ∷ 0 ∷ []

-- the counters that a routine touches, by a table
abbrev pub touched_by : List (List Bool) → ℕ → List Bool
touched_by table r = slice_index_or table r (false ∷ false ∷ false ∷ false ∷ [])
