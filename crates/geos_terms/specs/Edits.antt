-- What the calls do to the chunks of one block, whosever it is.
use Rattle.std.specs.Prelude.{ℕ, ◌+◌, Bool, nat_lt, List, [], ◌∷◌, length, Option, is_none}
use Rattle.geos_terms.specs.Chunks.{chunk_of, bytes_of, with_new, new_handle, without, with_resized, with_inserted, with_deleted}
use Rattle.geos_terms.specs.declared.refusal.Refusal.{Refusal}
use Rattle.geos_terms.specs.declared.refusal.Refusal.TheVariants.{BadChunk, Short, Range}

-- a change of chunks: its refusals, each with its test; where none comes, the chunks after it
-- and its answer
pub record Edit (A : Type 0) : Type 0 where
  pub refusals : List (Bool × Refusal)
  pub chunks : List (Option (List ℕ))
  pub answer : A

-- part of a chunk
pub record Part : Type 0 where
  pub chunk : ℕ
  pub start : ℕ
  pub len : ℕ

-- there is no such chunk
abbrev pub no_chunk : List (Option (List ℕ)) → ℕ → Bool × Refusal
no_chunk chunks c = (is_none (chunk_of chunks c), BadChunk)

-- the length of a chunk
abbrev pub length_of : List (Option (List ℕ)) → ℕ → ℕ
length_of chunks c = length (bytes_of chunks c)

-- a new chunk of n zero bytes
abbrev pub alloc : ℕ → List (Option (List ℕ)) → Edit ℕ
alloc n chunks = record { refusals = []; chunks = with_new chunks n; answer = new_handle chunks }

-- a chunk goes
abbrev pub free : ℕ → List (Option (List ℕ)) → Edit (Unit {0})
free c chunks = record { refusals = no_chunk chunks c ∷ []; chunks = without chunks c; answer = tt }

-- a chunk gets n bytes
abbrev pub realloc : ℕ → ℕ → List (Option (List ℕ)) → Edit (Unit {0})
realloc c n chunks = record { refusals = no_chunk chunks c ∷ []; chunks = with_resized chunks c n; answer = tt }

-- a chunk gets n zero bytes at an offset
abbrev pub insert_bytes : ℕ → ℕ → ℕ → List (Option (List ℕ)) → Edit (Unit {0})
insert_bytes c at n chunks = record {
  refusals = no_chunk chunks c ∷ (nat_lt (length_of chunks c) at, Range) ∷ [];
  chunks = with_inserted chunks c at n;
  answer = tt;
}

-- a chunk loses n bytes at an offset
abbrev pub delete_bytes : ℕ → ℕ → ℕ → List (Option (List ℕ)) → Edit (Unit {0})
delete_bytes c at n chunks = record {
  refusals = no_chunk chunks c ∷ (nat_lt (length_of chunks c) (at + n), Range) ∷ [];
  chunks = with_deleted chunks c at n;
  answer = tt;
}

-- returns the length of a chunk
abbrev pub size : ℕ → List (Option (List ℕ)) → Edit ℕ
size c chunks = record { refusals = no_chunk chunks c ∷ []; chunks = chunks; answer = length_of chunks c }

-- a chunk of n bytes at least is referred to
abbrev pub refer : ℕ → ℕ → List (Option (List ℕ)) → Edit Part
refer c n chunks = record {
  refusals = no_chunk chunks c ∷ (nat_lt (length_of chunks c) n, Short) ∷ [];
  chunks = chunks;
  answer = record { chunk = c; start = 0; len = length_of chunks c };
}

-- the chunks stay as they are
abbrev pub contract : List (Option (List ℕ)) → Edit (Unit {0})
contract chunks = record { refusals = []; chunks = chunks; answer = tt }
