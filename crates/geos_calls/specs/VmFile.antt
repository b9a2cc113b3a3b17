-- The VM file as the model knows it: the current directory, the saved directory, and the contents of the device.
use Rattle.std.specs.Prelude.{ℕ, ◌+◌, Bool, true, false}
use Rattle.geos_calls.specs.Directories.{VmBlock, KeptBlock, Directory, no_directory, directory_length}

-- a current and a saved directory, as they are on the device
pub record Pair : Type 0 where
  pub cur : Directory KeptBlock
  pub saved : Directory KeptBlock

-- the contents of the device: a pair, or one of two pairs, and it is unknown which
pub data Kept : Type 0 where
  Sure : Pair → Kept
  Unsure : Pair → Pair → Kept

-- the current directory, the saved one, the contents of the device, and the most bytes of a pair there
pub record VmFile : Type 0 where
  pub cur : Directory VmBlock
  pub saved : Directory KeptBlock
  pub kept : Kept
  pub area : ℕ

-- what a pair takes on the device
abbrev pub pair_length : Pair → ℕ
pair_length pair = directory_length pair.cur + directory_length pair.saved

-- it is unknown which pair the device has
abbrev pub is_unsure : Kept → Bool
is_unsure (Sure p) = false
is_unsure (Unsure p q) = true

-- the device may also have this pair
abbrev pub doubted : Kept → Pair → Kept
doubted (Sure p) new = Unsure p new
doubted (Unsure p q) new = Unsure p q

-- a file without a block, in memory and on the device
abbrev pub empty_file : ℕ → VmFile
empty_file area = record {
  cur = no_directory;
  saved = no_directory;
  kept = Sure (record { cur = no_directory; saved = no_directory });
  area = area;
}
