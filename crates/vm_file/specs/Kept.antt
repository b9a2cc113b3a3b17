-- What an open file keeps.
use Rattle.std.specs.Prelude.{◌≡◌, ◌⊎◌, ℕ, not, List, Result, Ok, Err, if◌then◌else◌}
use Rattle.vm_file.specs.Contents.{Pair}
use Rattle.vm_file.specs.Reading.{area_of, base_of, found, pair_at}
use Rattle.vm_file.specs.Spelling.{empty_pair}
use Rattle.vm_file.specs.State.{FileState, pair_of}

-- the pair that the file is sure of; or the two between which it is
-- unsure: the selected pair, and the one that a commit was writing
pub data Kept : Type 0 where
  SureOf : Pair → Kept
  UnsureBetween : Pair → Pair → Kept

-- the pair that was read, or an empty one
abbrev pub or_empty : Result Pair ℕ → Pair
or_empty (Ok pair) = pair
or_empty (Err at) = empty_pair

-- the pair that the other area encodes, or an empty pair if it encodes none
abbrev pub other_pair : {D : Type 0} → (D → List ℕ) → FileState D → Pair
other_pair image f = or_empty (pair_at (base_of f.area (not f.second)) (area_of (image f.device) f.area (not f.second)))

-- the committed pair, or the two candidates if the file is unsure
abbrev pub kept_of : {D : Type 0} → (D → List ℕ) → FileState D → Kept
kept_of image f = if f.sure then SureOf (pair_of image f) else UnsureBetween (pair_of image f) (other_pair image f)

-- `open` finds the committed pair in an image, or one of the two candidates
abbrev pub FindsKept : Kept → List ℕ → Type 0
FindsKept (SureOf pair) c = found c ≡ Ok pair
FindsKept (UnsureBetween pair other) c = (found c ≡ Ok pair) ⊎ (found c ≡ Ok other)
