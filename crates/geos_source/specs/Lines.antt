-- The parts of a line: its labels, and the words after them.
use Rattle.std.specs.Prelude.{◌≡◌, ℕ, List, [], ◌∷◌, Option, Some, None, MatchOption}
use Rattle.std.specs.Borrow.{Bor}
use Rattle.geos_text.specs.Words.{words, without_comment}
use Rattle.geos_source.specs.Names.{label_of}

-- the words of a line, without its comment
abbrev pub said : List ℕ → List (List ℕ)
said line = words (without_comment line)

-- the names of the labels at the start of a line, and the words after them
pub record Line : Type 0 where
  pub labels : List (List ℕ)
  pub statement : List (List ℕ)

-- a line with one more word at its start: another label, or the first word of the statement
abbrev pub behind_label : Option (List ℕ) → List ℕ → List (List ℕ) → Line → Line
behind_label None word words rest = record { labels = []; statement = word ∷ words }
behind_label (Some name) word words rest = record { labels = name ∷ rest.labels; statement = rest.statement }

-- a line's words parted: labels as long as there are some, then the statement
abbrev pub parted : List (List ℕ) → Line
parted [] = record { labels = []; statement = [] }
parted (word ∷ words) = behind_label (label_of word) word words (parted words)

-- the reader returns the first word of the statement and the rest of the line, or nothing if the statement has no
-- word
abbrev pub IsStatement : List (List ℕ) → Option (Bor (List ℕ) × Bor (List ℕ)) → Type 0
IsStatement statement read = MatchOption read (statement ≡ []) (λ r. statement ≡ r.0.now ∷ words r.1.now)
