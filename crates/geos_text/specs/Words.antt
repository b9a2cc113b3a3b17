-- The words of a line.
use Rattle.std.specs.Prelude.{ℕ, Bool, true, false, not, ◌||◌, ◌==◌, List, [], ◌∷◌, filter}
use Rattle.std.specs.List.{slice_split, before_first}

-- the most bytes of a text, a script or a session
abbrev pub most_bytes : ℕ
most_bytes = 1048576

-- a space or a tab
abbrev pub is_blank : ℕ → Bool
is_blank byte = byte == 32 || byte == 9

-- a list has no element
abbrev pub is_empty : {A : Type 0} → List A → Bool
is_empty [] = true
is_empty (x ∷ xs) = false

-- the words of a line: its parts between blanks, but the empty ones
abbrev pub words : List ℕ → List (List ℕ)
words line = filter (λ part. not (is_empty part)) (slice_split is_blank line)

-- a line as far as its first `;`
abbrev pub without_comment : List ℕ → List ℕ
without_comment line = before_first (λ byte. byte == 59) line
