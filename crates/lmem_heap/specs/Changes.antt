-- What the calls do to the chunks.
use Rattle.std.specs.Prelude.{ℕ, ◌+◌, ◌-◌, List, Option, Some, length, replicate, slice_set}
use Rattle.lmem_raw.specs.Bytes.{part, with_part}
use Rattle.geos_terms.specs.Chunks.{entry_bytes, resized}

-- the chunks, with the chunk of an entry resized to n bytes
abbrev pub entry_resized : List (Option (List ℕ)) → ℕ → ℕ → List (Option (List ℕ))
entry_resized chunks i n = slice_set chunks i (Some (resized (entry_bytes chunks i) n))

-- moves the bytes from an offset on up by n, so that the last n are lost, and puts n zeros at the offset
abbrev pub opened : List ℕ → ℕ → ℕ → List ℕ
opened bytes at n = with_part (with_part bytes (at + n) (part bytes at (length bytes - (at + n)))) at (replicate n 0)

-- moves the bytes after the n bytes at an offset down by n, over these n bytes
abbrev pub closed : List ℕ → ℕ → ℕ → List ℕ
closed bytes at n = with_part bytes at (part bytes (at + n) (length bytes - (at + n)))
