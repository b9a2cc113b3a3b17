-- What is written before the areas.
use Rattle.std.specs.Prelude.{Bool, if◌then◌else◌, ℕ, ◌%◌, ◌/◌, List, [], ◌∷◌, ◌++◌, replicate}
use Rattle.geos_terms.specs.Bytes.{word_bytes}
use Rattle.vm_file.specs.Contents.{Contents, Pair}
use Rattle.vm_file.specs.Reading.{magic}

-- 32 bits, the low byte first
abbrev pub long_bytes : ℕ → List ℕ
long_bytes n = n % 256 ∷ n / 256 % 256 ∷ n / 65536 % 256 ∷ n / 16777216 ∷ []

-- `GVM1`, the version 1, 0, the area size, and zeros to 511
abbrev pub header_spelling : ℕ → List ℕ
header_spelling area = magic ++ word_bytes 1 ++ word_bytes 0 ++ long_bytes area ++ replicate 500 0

-- the start of a new file: the header, the selector 0, zeros to 1,023, and two empty directories in the first area
abbrev pub new_file : ℕ → List ℕ
new_file area = header_spelling area ++ replicate 512 0 ++ replicate 16 0

-- no block, and nothing mapped
abbrev pub empty_contents : Contents
empty_contents = record { blocks = []; map_block = 0; map_item = (0, 0) }

-- the pair of a new file
abbrev pub empty_pair : Pair
empty_pair = record { cur = empty_contents; saved = empty_contents }

-- the selector that is written for an area
abbrev pub selector_of : Bool → ℕ
selector_of second = if second then 1 else 0
