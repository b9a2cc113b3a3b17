-- A mark for each pc of an image, of which there are at most 4,096.
use Rattle.std.specs.Prelude.{◌≡◌, ℕ, replicate, Bool, true, false, ◌&&◌, nat_lt, if◌then◌else◌, List, slice_set, slice_index_or}

-- no pc is marked
unfoldable pub no_marks : List Bool
no_marks = replicate 4096 false

-- one more mark, if there is such a pc
abbrev pub marked : List Bool → ℕ → List Bool
marked marks pc = if nat_lt pc 4096 then slice_set marks pc true else marks

-- a pc is marked
abbrev pub is_marked : List Bool → ℕ → Bool
is_marked marks pc = nat_lt pc 4096 && slice_index_or marks pc false

-- exactly the pcs for which `is` is true are marked
abbrev pub Marking : List Bool → (ℕ → Bool) → Type 0
Marking marks is = (pc : ℕ) → is_marked marks pc ≡ is pc
