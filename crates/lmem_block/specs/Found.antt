-- What calls that look find.
use Rattle.std.specs.Prelude.{◌≡◌, ◌≢◌, ℕ, ◌<◌, List, Option, None, IsSome}
use Rattle.geos_terms.specs.Chunks.{chunk_of, handle_of}
use Rattle.geos_terms.specs.Block.{entries, entry}

-- the entry of a handle that has a chunk
abbrev pub HasEntry : List ℕ → ℕ → ℕ → Type 0
HasEntry block c i = (c ≡ handle_of i) × (i < entries block) × (entry block i ≢ 0)

-- no handle above c has a chunk
abbrev pub IsLast : List (Option (List ℕ)) → ℕ → Type 0
IsLast chunks c = (h : ℕ) → c < h → chunk_of chunks h ≡ None

-- the lowest handle above c that has a chunk
abbrev pub IsNext : List (Option (List ℕ)) → ℕ → ℕ → Type 0
IsNext chunks c h = (c < h) × IsSome (chunk_of chunks h) × ((k : ℕ) → c < k → k < h → chunk_of chunks k ≡ None)
