-- Arrays in the bytes of a chunk: a header of four words, then elements of one size side by side, or a table of
-- offsets and then elements of varying sizes.
use Rattle.std.specs.Prelude.{ℕ, zero, suc, ◌+◌, ◌-◌, ◌*◌, Bool, ◌&&◌, nat_le, ◌==◌, if◌then◌else◌, List, [], ◌∷◌, ◌++◌, length, take, drop, sum_by, flat_map, slice_index_or, slice_set, replicate, insert, remove, Option, Some, None}
use Rattle.lmem_raw.specs.Bytes.{part}
use Rattle.geos_terms.specs.Bytes.{word, word_bytes}

-- an array: the size of its elements, 0 where sizes vary, and the bytes of each
pub record Array : Type 0 where
  pub element_size : ℕ
  pub elements : List (List ℕ)

-- What bytes encode

-- the count of elements
abbrev pub count_word : List ℕ → ℕ
count_word bytes = word bytes 0

-- the size of the elements, 0 where sizes vary
abbrev pub size_word : List ℕ → ℕ
size_word bytes = word bytes 2

-- four words, the third of them 0 and the fourth 8
abbrev pub has_header : List ℕ → Bool
has_header bytes = nat_le 8 (length bytes) && (word bytes 4 == 0) && (word bytes 6 == 8)

-- n parts of k bytes each
abbrev pub equal_parts : ℕ → ℕ → List ℕ → List (List ℕ)
equal_parts k zero bytes = []
equal_parts k (suc n) bytes = take k bytes ∷ equal_parts k n (drop k bytes)

-- n words from an offset on
abbrev pub words_from : List ℕ → ℕ → ℕ → List ℕ
words_from bytes at zero = []
words_from bytes at (suc n) = word bytes at ∷ words_from bytes (at + 2) n

-- the offsets where elements of varying sizes begin
abbrev pub offset_words : List ℕ → List ℕ
offset_words bytes = words_from bytes 8 (count_word bytes)

-- no offset is below the one before it, and none is past the end
abbrev pub never_fall : ℕ → List ℕ → ℕ → Bool
never_fall at [] end = nat_le at end
never_fall at (next ∷ rest) end = nat_le at next && never_fall next rest end

-- the offsets start at `first` and never fall; without offsets, `first` is the end
abbrev pub are_offsets : List ℕ → ℕ → ℕ → Bool
are_offsets [] first end = first == end
are_offsets (at ∷ rest) first end = (at == first) && never_fall at rest end

-- the parts that begin at `at` and at the offsets in the list: each part ends where the next one begins, and the last
-- at the end of the bytes
abbrev pub parts_at : List ℕ → ℕ → List ℕ → List (List ℕ)
parts_at bytes at [] = drop at bytes ∷ []
parts_at bytes at (next ∷ rest) = part bytes at (next - at) ∷ parts_at bytes next rest

-- the parts that begin at these offsets
abbrev pub parts_from : List ℕ → List ℕ → List (List ℕ)
parts_from bytes [] = []
parts_from bytes (at ∷ rest) = parts_at bytes at rest

-- elements of one size fill the bytes after the header
abbrev pub are_equal : List ℕ → Bool
are_equal bytes = length bytes == 8 + count_word bytes * size_word bytes

-- elements of varying sizes: the first offset is where the table of offsets ends
abbrev pub are_varying : List ℕ → Bool
are_varying bytes = are_offsets (offset_words bytes) (8 + 2 * count_word bytes) (length bytes)

-- the bytes are an array
abbrev pub is_array : List ℕ → Bool
is_array bytes = has_header bytes && (if size_word bytes == 0 then are_varying bytes else are_equal bytes)

-- the elements of an array
abbrev pub elements_in : List ℕ → List (List ℕ)
elements_in bytes = if size_word bytes == 0 then parts_from bytes (offset_words bytes) else equal_parts (size_word bytes)
    (count_word bytes) (drop 8 bytes)

-- the array that bytes encode, or none
unfoldable pub arr : List ℕ → Option Array
arr bytes = if is_array bytes then Some (record { element_size = size_word bytes; elements = elements_in bytes }) else None

-- Which bytes encode an array

-- the offset of the first element; elements of varying sizes follow the table of offsets
abbrev pub first_at : Array → ℕ
first_at a = if a.element_size == 0 then 8 + 2 * length a.elements else 8

-- the offset of an element, or, at the count, the end of the last element
abbrev pub element_at : Array → ℕ → ℕ
element_at a i = first_at a + sum_by length (take i a.elements)

-- the bytes of an element
abbrev pub element : Array → ℕ → List ℕ
element a i = slice_index_or a.elements i []

-- the offsets of parts, the first of which is at `at`
abbrev pub offsets : ℕ → List (List ℕ) → List ℕ
offsets at [] = []
offsets at (x ∷ xs) = at ∷ offsets (at + length x) xs

-- the table of offsets, which an array of equal elements does without
abbrev pub table : Array → List ℕ
table a = if a.element_size == 0 then offsets (first_at a) a.elements else []

-- the header and the table
abbrev pub head_words : Array → List ℕ
head_words a = length a.elements ∷ a.element_size ∷ 0 ∷ 8 ∷ table a

-- the bytes that encode an array
unfoldable pub spelled : Array → List ℕ
spelled a = flat_map word_bytes (head_words a) ++ flat_map (λ e. e) a.elements

-- Other arrays

-- an array with no element
abbrev pub empty : ℕ → Array
empty k = record { element_size = k; elements = [] }

-- the length of a new element: n if sizes vary, otherwise the size of all elements
abbrev pub new_length : Array → ℕ → ℕ
new_length a n = if a.element_size == 0 then n else a.element_size

-- with a new element of zero bytes at an index
abbrev pub with_element : Array → ℕ → ℕ → Array
with_element a i n = record a { elements = insert a.elements i (replicate (new_length a n) 0) }

-- without an element
abbrev pub without_element : Array → ℕ → Array
without_element a i = record a { elements = remove a.elements i }

-- with other bytes as an element
abbrev pub with_element_bytes : Array → ℕ → List ℕ → Array
with_element_bytes a i bytes = record a { elements = slice_set a.elements i bytes }
