-- Marks of names: names with different marks are different.
use Rattle.std.specs.Prelude.{ℕ, ◌+◌, ◌*◌, ◌%◌, List, [], ◌∷◌}

-- the mark of bytes that follow other bytes with this mark
abbrev pub marked : ℕ → List ℕ → ℕ
marked mark [] = mark
marked mark (b ∷ bytes) = marked (((mark * 31) % 4294967296 + b) % 4294967296) bytes

-- the mark of a name
abbrev pub mark_of : List ℕ → ℕ
mark_of name = marked 0 name
