-- What a file encodes, or the offset of the first field that is cut short or breaks its rule.
use Rattle.std.specs.Prelude.{ℕ, zero, suc, ◌+◌, ◌*◌, ◌%◌, Bool, ◌&&◌, not, nat_lt, nat_le, nat_eq, ◌==◌, if◌then◌else◌, List, [], ◌∷◌, length, take, drop, map, Result, Ok, Err, slice_index}
use Rattle.std.specs.List.{position_or_len, starts_with}
use Rattle.lmem_raw.specs.Bytes.{part}
use Rattle.geos_terms.specs.Bytes.{word}
use Rattle.geos_terms.specs.Block.{handle_word}
use Rattle.vm_file.specs.declared.directory.Entry.{Entry}
use Rattle.geos_terms.specs.Heap.{is_block_size}
use Rattle.geos_terms.specs.HeapTest.{is_heap}
use Rattle.vm_file.specs.Directories.{most_blocks, may_be_map_block, may_be_map_group, may_be_map_item, entries_length}
use Rattle.vm_file.specs.Contents.{Block, Contents, Pair, entry_of, contents_length}

-- continues with what was read, or stops at the first fault
infixl 10 ◌>>=◌
abbrev pub ◌>>=◌ : {A B : Type 0} → Result A ℕ → (A → Result B ℕ) → Result B ℕ
(Ok x) >>= f = f x
(Err at) >>= f = Err at

-- what was read, or a fault at the offset if it breaks its rule
abbrev pub wanted : {A : Type 0} → ℕ → (A → Bool) → Result A ℕ → Result A ℕ
wanted at rule (Ok x) = if rule x then Ok x else Err at
wanted at rule (Err e) = Err e

-- word k of bytes that lie at an offset; a fault there if the bytes end before it
abbrev pub word_at : ℕ → List ℕ → ℕ → Result ℕ ℕ
word_at at bytes k = if nat_lt (k + 1) (length bytes) then Ok (word bytes k) else Err (at + k)

-- handle, user ID and length of a block, after a block with this handle
unfoldable pub head_at : ℕ → ℕ → List ℕ → Result Entry ℕ
head_at last at bytes = do
  h ← wanted at (λ h. nat_lt last h && nat_le h most_blocks) (word_at at bytes 0)
  uid ← word_at at bytes 2
  len ← wanted (at + 4) is_block_size (word_at at bytes 4)
  Ok (record { h = h; uid = uid; len = len })

-- the bytes of a block, one field: a heap whose handle word is its handle
unfoldable pub bytes_at : Entry → ℕ → List ℕ → Result (List ℕ) ℕ
bytes_at e at bytes =
    let block = take e.len bytes in
    if nat_le e.len (length bytes) && is_heap block && (handle_word block == e.h) then Ok block else Err at

-- a block, after a block with this handle
unfoldable pub block_at : ℕ → ℕ → List ℕ → Result Block ℕ
block_at last at bytes = do
  e ← head_at last at bytes
  block ← bytes_at e (at + 6) (drop 6 bytes)
  Ok (record { h = e.h; uid = e.uid; bytes = block })

-- so many blocks, after a block with this handle
abbrev pub blocks_at : ℕ → ℕ → ℕ → List ℕ → Result (List Block) ℕ
blocks_at zero last at bytes = Ok []
blocks_at (suc n) last at bytes = do
  b ← block_at last at bytes
  others ← blocks_at n b.h (at + (6 + length b.bytes)) (drop (6 + length b.bytes) bytes)
  Ok (b ∷ others)

-- map block, the map item's group, map item
unfoldable pub maps_at : List Entry → ℕ → List ℕ → Result (ℕ × (ℕ × ℕ)) ℕ
maps_at entries at bytes = do
  h ← wanted at (may_be_map_block entries) (word_at at bytes 0)
  g ← wanted (at + 2) (may_be_map_group entries) (word_at at bytes 2)
  item ← wanted (at + 4) (may_be_map_item g) (word_at at bytes 4)
  Ok (h, (g, item))

-- the number of blocks of a directory
abbrev pub count_at : ℕ → List ℕ → Result ℕ ℕ
count_at at bytes = wanted at (λ n. nat_le n most_blocks) (word_at at bytes 0)

-- a directory with its blocks
unfoldable pub contents_at : ℕ → List ℕ → Result Contents ℕ
contents_at at bytes = do
  n ← count_at at bytes
  blocks ← blocks_at n 0 (at + 2) (drop 2 bytes)
  maps ← maps_at (map entry_of blocks) (at + 2 + entries_length (map entry_of blocks)) (drop (2 + entries_length (map entry_of blocks)) bytes)
  Ok (record { blocks = blocks; map_block = maps.0; map_item = maps.1 })

-- the current directory, then the saved one
unfoldable pub pair_at : ℕ → List ℕ → Result Pair ℕ
pair_at at bytes = do
  cur ← contents_at at bytes
  saved ← contents_at (at + contents_length cur) (drop (contents_length cur) bytes)
  Ok (record { cur = cur; saved = saved })

-- `GVM1`
abbrev pub magic : List ℕ
magic = 0x47 ∷ 0x56 ∷ 0x4d ∷ 0x31 ∷ []

-- a legal area size
abbrev pub is_area : ℕ → Bool
is_area n = nat_le 512 n && nat_le n 16777216 && (n % 512 == 0)

-- the area size: 32 bits
abbrev pub area_size_at : List ℕ → Result ℕ ℕ
area_size_at bytes = wanted 8 is_area (if nat_lt 11 (length bytes) then Ok (word bytes 8 + 65536 * word bytes 10) else Err 8)

-- the zeros from 12 to 511: how many there are before the first byte that is another or cut
abbrev pub zeros_at : List ℕ → ℕ
zeros_at bytes = position_or_len (λ b. not (b == 0)) (part bytes 12 500)

-- the first 512 bytes: `GVM1`, the version 1, 0, the area size, and zeros
unfoldable pub header_at : List ℕ → Result ℕ ℕ
header_at bytes = do
  front ← wanted 0 (λ b. starts_with nat_eq b magic) (Ok bytes)
  version ← wanted 4 (λ n. n == 1) (word_at 0 bytes 4)
  unused ← wanted 6 (λ n. n == 0) (word_at 0 bytes 6)
  area ← area_size_at bytes
  zeros ← wanted (12 + zeros_at bytes) (λ n. n == 500) (Ok (zeros_at bytes))
  Ok area

-- the selector names the second area: it is odd
abbrev pub is_second : ℕ → Bool
is_second selector = selector % 2 == 1

-- the offset at which an area begins
abbrev pub base_of : ℕ → Bool → ℕ
base_of area second = if second then 1024 + area else 1024

-- the bytes of an area, as many as the image has
abbrev pub area_of : List ℕ → ℕ → Bool → List ℕ
area_of image area second = part image (base_of area second) area

-- the selector
abbrev pub selector_at : List ℕ → Result ℕ ℕ
selector_at image = if nat_lt 512 (length image) then Ok (slice_index image 512) else Err 512

-- the contents of a file: the area size, whether the second area is selected, and the pair in the selected area
pub record File : Type 0 where
  pub area : ℕ
  pub second : Bool
  pub pair : Pair

-- the file that an image encodes
unfoldable pub file_at : List ℕ → Result File ℕ
file_at image = do
  area ← header_at (take 512 image)
  selector ← selector_at image
  pair ← pair_at (base_of area (is_second selector)) (area_of image area (is_second selector))
  Ok (record { area = area; second = is_second selector; pair = pair })

-- the pair that `open` finds in an image
abbrev pub found : List ℕ → Result Pair ℕ
found image = file_at image >>= λ file. Ok file.pair
