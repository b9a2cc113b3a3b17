-- What the calls on arrays do to the chunks of one block, whosever it is.
use Rattle.std.specs.Prelude.{ℕ, Bool, not, nat_lt, nat_le, ◌==◌, List, [], ◌∷◌, ◌++◌, length, Option, is_none, unwrap_or}
use Rattle.geos_terms.specs.Chunks.{bytes_of, with_new, new_handle, with_bytes, resized}
use Rattle.geos_terms.specs.declared.refusal.Refusal.{Refusal}
use Rattle.geos_terms.specs.declared.refusal.Refusal.TheVariants.{Short, BadArray, BadElement}
use Rattle.geos_terms.specs.Edits.{Edit, Part, no_chunk}
use Rattle.geos_terms.specs.Arrays.{Array, arr, spelled, element_at, element, with_element, without_element, with_element_bytes, empty}

-- the array that a chunk encodes, or an empty one if it encodes none
abbrev pub array_of : List (Option (List ℕ)) → ℕ → Array
array_of chunks c = unwrap_or (arr (bytes_of chunks c)) (empty 0)

-- the count of its elements
abbrev pub count_of : List (Option (List ℕ)) → ℕ → ℕ
count_of chunks c = length (array_of chunks c).elements

-- an element of it
abbrev pub element_of : List (Option (List ℕ)) → ℕ → ℕ → List ℕ
element_of chunks c i = element (array_of chunks c) i

-- there is no such chunk, or it encodes no array
abbrev pub no_array : List (Option (List ℕ)) → ℕ → List (Bool × Refusal)
no_array chunks c = no_chunk chunks c ∷ (is_none (arr (bytes_of chunks c)), BadArray) ∷ []

-- the array's elements have one size, so that none can get another
abbrev pub is_fixed : List (Option (List ℕ)) → ℕ → Bool × Refusal
is_fixed chunks c = (not ((array_of chunks c).element_size == 0), BadArray)

-- the array has no element of this index
abbrev pub is_past : List (Option (List ℕ)) → ℕ → ℕ → Bool × Refusal
is_past chunks c i = (nat_le (count_of chunks c) i, BadElement)

-- there is no such element
abbrev pub no_element : List (Option (List ℕ)) → ℕ → ℕ → List (Bool × Refusal)
no_element chunks c i = no_array chunks c ++ (is_past chunks c i ∷ [])

-- the chunks, with another array encoded in a chunk
abbrev pub with_array : List (Option (List ℕ)) → ℕ → Array → List (Option (List ℕ))
with_array chunks c a = with_bytes chunks c (spelled a)

-- makes an empty array in a new chunk; elements have k bytes, or sizes that vary where k is 0
abbrev pub create_array : ℕ → List (Option (List ℕ)) → Edit ℕ
create_array k chunks = record { refusals = []; chunks = with_array (with_new chunks 8) (new_handle chunks) (empty k); answer = new_handle chunks }

-- appends an element of zero bytes
abbrev pub append_element : ℕ → ℕ → List (Option (List ℕ)) → Edit (Unit {0})
append_element c n chunks = record {
  refusals = no_array chunks c;
  chunks = with_array chunks c (with_element (array_of chunks c) (count_of chunks c) n);
  answer = tt;
}

-- puts an element of zero bytes at an index, which may be the count
abbrev pub insert_element : ℕ → ℕ → ℕ → List (Option (List ℕ)) → Edit (Unit {0})
insert_element c i n chunks = record {
  refusals = no_array chunks c ++ ((nat_lt (count_of chunks c) i, BadElement) ∷ []);
  chunks = with_array chunks c (with_element (array_of chunks c) i n);
  answer = tt;
}

-- takes an element out
abbrev pub remove_element : ℕ → ℕ → List (Option (List ℕ)) → Edit (Unit {0})
remove_element c i chunks = record {
  refusals = no_element chunks c i;
  chunks = with_array chunks c (without_element (array_of chunks c) i);
  answer = tt;
}

-- tells the count of elements
abbrev pub count_elements : ℕ → List (Option (List ℕ)) → Edit ℕ
count_elements c chunks = record { refusals = no_array chunks c; chunks = chunks; answer = count_of chunks c }

-- refers to an element of n bytes at least
abbrev pub refer_element : ℕ → ℕ → ℕ → List (Option (List ℕ)) → Edit Part
refer_element c i n chunks = record {
  refusals = no_element chunks c i ++ ((nat_lt (length (element_of chunks c i)) n, Short) ∷ []);
  chunks = chunks;
  answer = record { chunk = c; start = element_at (array_of chunks c) i; len = length (element_of chunks c i) };
}

-- takes all elements out; the size of elements stays
abbrev pub clear_array : ℕ → List (Option (List ℕ)) → Edit (Unit {0})
clear_array c chunks = record {
  refusals = no_array chunks c;
  chunks = with_array chunks c (empty (array_of chunks c).element_size);
  answer = tt;
}

-- gives an element n bytes: its first bytes that fit, and zeros after them
abbrev pub resize_element : ℕ → ℕ → ℕ → List (Option (List ℕ)) → Edit (Unit {0})
resize_element c i n chunks = record {
  refusals = no_array chunks c ++ (is_fixed chunks c ∷ is_past chunks c i ∷ []);
  chunks = with_array chunks c (with_element_bytes (array_of chunks c) i (resized (element_of chunks c i) n));
  answer = tt;
}
