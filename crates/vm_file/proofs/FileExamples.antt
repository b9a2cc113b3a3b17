-- The definitions computed on files that are written out.
use Rattle.std.proofs.Common.{◌≡◌, ℕ, ◌+◌, ◌*◌, ◌++◌, List, [], ◌∷◌, true, false, length, take, set, replicate, Ok, Err, refl}
use Rattle.geos_terms.specs.Bytes.{word}
use Rattle.geos_terms.specs.Chunks.{cost}
use Rattle.geos_terms.specs.HeapTest.{is_heap}
use Rattle.vm_file.specs.Contents.{Pair, pair_spelling, pair_length}
use Rattle.vm_file.specs.Reading.{head_at, bytes_at, block_at, maps_at, contents_at, pair_at, header_at, file_at}
use Rattle.vm_file.specs.Spelling.{new_file, empty_contents, empty_pair}

-- a new file of area 512
abbrev fresh : List ℕ
fresh = new_file 512 ++ replicate 1008 0

-- with a word at an offset
abbrev with_word : List ℕ → ℕ → ℕ → ℕ → List ℕ
with_word bytes at low high = set (set bytes at low) (at + 1) high

fresh_long : length fresh ≡ 2048
fresh_long = refl

fresh_header : take 16 fresh ≡ 0x47 ∷ 0x56 ∷ 0x4d ∷ 0x31 ∷ 1 ∷ 0 ∷ 0 ∷ 0 ∷ 0 ∷ 2 ∷ 0 ∷ 0 ∷ 0 ∷ 0 ∷ 0 ∷ 0 ∷ []
fresh_header = refl

fresh_opens : file_at fresh ≡ Ok (record { area = 512; second = false; pair = empty_pair })
unfolding is_heap word cost head_at bytes_at block_at maps_at contents_at pair_at header_at file_at
fresh_opens = refl

-- a version 2, an area of 513 bytes, a byte in the header that is not 0
damaged_headers : (file_at (set fresh 4 2) ≡ Err 4) × (file_at (with_word fresh 8 1 2) ≡ Err 8) × (file_at (set fresh 100 1) ≡ Err 100)
unfolding is_heap word cost head_at bytes_at block_at maps_at contents_at pair_at header_at file_at
damaged_headers = (refl, refl, refl)

-- cut in the header, before the selector, before the first area, in it, and in its last word
cut_files : (file_at (take 300 fresh) ≡ Err 300) × (file_at (take 512 fresh) ≡ Err 512) × (file_at (take 600 fresh) ≡ Err 1024)
    × (file_at (take 1030 fresh) ≡ Err 1030) × (file_at (take 1039 fresh) ≡ Err 1038)
unfolding is_heap word cost head_at bytes_at block_at maps_at contents_at pair_at header_at file_at
cut_files = (refl, refl, refl, refl, refl)

-- an even selector names the first area
other_selector : file_at (set fresh 512 6) ≡ Ok (record { area = 512; second = false; pair = empty_pair })
unfolding is_heap word cost head_at bytes_at block_at maps_at contents_at pair_at header_at file_at
other_selector = refl

-- a block of 64 bytes with handle 1, user ID 5 and a chunk of two bytes, which is the map block
abbrev block : List ℕ
block = (1 ∷ 0 ∷ 16 ∷ 0 ∷ 0 ∷ 0 ∷ 0 ∷ 0 ∷ 64 ∷ 0 ∷ 2 ∷ 0 ∷ 24 ∷ 0 ∷ 40 ∷ 0 ∷ 22 ∷ 0 ∷ 0 ∷ 0 ∷ 4 ∷ 0 ∷ 77 ∷ 0 ∷ 40 ∷ 0 ∷ 0 ∷ 0 ∷ []) ++ replicate 36 0

abbrev one_block : Pair
one_block = record {
  cur = record { blocks = record { h = 1; uid = 5; bytes = block } ∷ []; map_block = 1; map_item = (0, 0) };
  saved =
      empty_contents;
}

-- the file that holds it, in the second area
abbrev updated : List ℕ
updated = (take 512 fresh ++ 1 ∷ replicate 1023 0) ++ (pair_spelling one_block ++ replicate 426 0)

one_block_long : pair_length one_block ≡ 86
one_block_long = refl

updated_opens : file_at updated ≡ Ok (record { area = 512; second = true; pair = one_block })
unfolding is_heap word cost head_at bytes_at block_at maps_at contents_at pair_at header_at file_at
updated_opens = refl

-- too many blocks, handle 0, length 72, a flag in the block's header
damaged_entries : (file_at (with_word updated 1536 1 4) ≡ Err 1536) × (file_at (with_word updated 1538 0 0) ≡ Err 1538)
    × (file_at (with_word updated 1542 72 0) ≡ Err 1542) × (file_at (set updated 1548 1) ≡ Err 1544)
unfolding is_heap word cost head_at bytes_at block_at maps_at contents_at pair_at header_at file_at
damaged_entries = (refl, refl, refl, refl)

-- a second block that is not there, a map block that is a group, a map block that is not there, a map item without a group
damaged_maps : (file_at (with_word updated 1536 2 0) ≡ Err 1608) × (file_at (with_word updated 1540 0 255) ≡ Err 1608)
    × (file_at (with_word updated 1608 2 0) ≡ Err 1608) × (file_at (with_word updated 1612 3 0) ≡ Err 1612)
unfolding is_heap word cost head_at bytes_at block_at maps_at contents_at pair_at header_at file_at
damaged_maps = (refl, refl, refl, refl)

-- four blocks twice are too long for an area of 512 bytes, four and none are not
four_blocks : (8 + 4 * 70 + 8 ≡ 296) × (2 * (8 + 4 * 70) ≡ 576)
four_blocks = (refl, refl)
