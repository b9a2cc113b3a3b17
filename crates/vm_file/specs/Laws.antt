-- What is true of the definitions, whatever a device contains.
use Rattle.std.specs.Prelude.{◌≡◌, ◌↔◌, ℕ, ◌&&◌, Bool, List, take, Ok, true}
use Rattle.geos_terms.specs.Bytes.{AreBytes}
use Rattle.vm_file.specs.Contents.{Pair, is_contents, pair_length, pair_spelling}
use Rattle.vm_file.specs.Reading.{pair_at}

-- both directories are legal, and their blocks heaps under their handles
abbrev pub is_pair : Pair → Bool
is_pair p = is_contents p.cur && is_contents p.saved

-- bytes are read as a pair exactly if the pair is legal and the bytes begin with its encoding
abbrev pub PairsHaveOneSpelling : Type 0
PairsHaveOneSpelling =
    (at : ℕ) (bytes : List ℕ) (p : Pair) → AreBytes bytes → (pair_at at bytes ≡ Ok p)
    ↔ ((is_pair p ≡ true) × (take (pair_length p) bytes ≡ pair_spelling p))
