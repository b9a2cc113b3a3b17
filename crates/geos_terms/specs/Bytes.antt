-- Bytes, and words in a list of them.
use Rattle.std.specs.Prelude.{◌≡◌, ℕ, ◌+◌, ◌*◌, ◌/◌, ◌%◌, ◌<◌, ◌≤◌, List, [], ◌∷◌, slice_index, All}
use Rattle.lmem_raw.specs.Bytes.{with_part}

-- the numbers are bytes
abbrev pub AreBytes : List ℕ → Type 0
AreBytes bytes = All (λ b. b < 256) bytes

-- the word at an offset, little end first
unfoldable pub word : List ℕ → ℕ → ℕ
word bytes at = slice_index bytes at + 256 * slice_index bytes (at + 1)

-- the two bytes of a word
abbrev pub word_bytes : ℕ → List ℕ
word_bytes w = w % 256 ∷ w / 256 ∷ []

-- the bytes with a word written at an offset
unfoldable pub with_word : List ℕ → ℕ → ℕ → List ℕ
with_word bytes at w = with_part bytes at (word_bytes w)

-- the bytes with words written one after the other
abbrev pub with_words : List ℕ → ℕ → List ℕ → List ℕ
with_words bytes at [] = bytes
with_words bytes at (w ∷ ws) = with_words (with_word bytes at w) (at + 2) ws

-- the words from an offset on
abbrev pub AreWords : List ℕ → ℕ → List ℕ → Type 0
AreWords bytes at [] = Unit {0}
AreWords bytes at (w ∷ ws) = (word bytes at ≡ w) × AreWords bytes (at + 2) ws

-- the old items between `lo` and `hi` are in the new list, `down` lower and `up` higher
abbrev pub IsShifted : List ℕ → List ℕ → ℕ → ℕ → ℕ → ℕ → Type 0
IsShifted old new down up lo hi = (j k : ℕ) → j + down ≡ k + up → lo ≤ k → k < hi → slice_index new j ≡ slice_index old k
