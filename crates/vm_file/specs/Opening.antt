-- What is known of a file that was opened.
use Rattle.std.specs.Prelude.{◌≡◌, ℕ, ◌+◌, ◌≤◌, true}
use Rattle.vm_file.specs.declared.directory.Directory.{Directory}
use Rattle.vm_file.specs.declared.opened.Opened.{Opened}
use Rattle.vm_file.specs.Contents.{Pair, listed}
use Rattle.vm_file.specs.Directories.{is_directory, directory_length}
use Rattle.vm_file.specs.Reading.{File, base_of, is_area}

-- the two directories of a pair, without the bytes of their blocks
abbrev pub listed_pair : Pair → Directory × Directory
listed_pair p = (listed p.cur, listed p.saved)

-- a file without the bytes of its blocks
abbrev pub listed_file : File → Opened
listed_file f = record { area = f.area; second = f.second; current = listed f.pair.cur; saved = listed f.pair.saved }

-- a legal area size and legal directories, which lie within the area and the device's length
pub record IsOpened (f : Opened) (len : ℕ) : Type 0 where
  pub area : is_area f.area ≡ true
  pub current : is_directory f.current ≡ true
  pub saved : is_directory f.saved ≡ true
  pub fits : directory_length f.current + directory_length f.saved ≤ f.area
  pub within : base_of f.area f.second + (directory_length f.current + directory_length f.saved) ≤ len
