-- Parts of a list of bytes.
use Rattle.std.specs.Prelude.{ℕ, zero, suc, List, [], ◌∷◌, take, drop}

-- the n bytes from at on
abbrev pub part : List ℕ → ℕ → ℕ → List ℕ
part bytes at n = take n (drop at bytes)

-- bytes with ws written from at on. The length stays: what would lie past the end is left out
abbrev pub with_part : List ℕ → ℕ → List ℕ → List ℕ
with_part [] at ws = []
with_part (b ∷ bytes) zero [] = b ∷ bytes
with_part (b ∷ bytes) zero (w ∷ ws) = w ∷ with_part bytes zero ws
with_part (b ∷ bytes) (suc at) ws = b ∷ with_part bytes at ws
