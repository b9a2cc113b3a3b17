-- What contracts see of a file that is open.
use Rattle.std.specs.Prelude.{◌≡◌, ◌⊎◌, ℕ, ◌+◌, ◌*◌, ◌≤◌, ◌<◌, Bool, true, not, ◌==◌, List, [], ◌∷◌, length, take, find, Result, Ok, slice_index, if◌then◌else◌, MatchBool, IsSomeAnd}
use Rattle.vm_file.specs.declared.directory.Entry.{Entry}
use Rattle.vm_file.specs.declared.directory.Directory.{Directory}
use Rattle.vm_file.specs.Contents.{Block, Pair, listed, pair_in}
use Rattle.vm_file.specs.Device.{IsSteady, Medium, Touched}
use Rattle.vm_file.specs.Directories.{is_directory, directory_length}
use Rattle.vm_file.specs.Outcomes.{ReadsToFailure}
use Rattle.vm_file.specs.Reading.{File, header_at, pair_at, is_area, is_second, base_of, area_of, found}

-- the device, the area size, whether the second area is selected,
-- whether the file is sure, the current and the saved directory
pub record FileState (D : Type 0) : Type 0 where
  pub device : D
  pub area : ℕ
  pub second : Bool
  pub sure : Bool
  pub current : Directory
  pub saved : Directory

-- the pair in the selected area
abbrev pub pair_of : {D : Type 0} → (D → List ℕ) → FileState D → Pair
pair_of image f = pair_in f.current f.saved (area_of (image f.device) f.area f.second)

-- the pair lists these directories
pub record ListsPair (p : Pair) (now last : Directory) : Type 0 where
  pub cur : listed p.cur ≡ now
  pub saved : listed p.saved ≡ last

-- the file on the device
abbrev pub file_of : {D : Type 0} → (D → List ℕ) → FileState D → File
file_of image f = record { area = f.area; second = f.second; pair = pair_of image f }

-- the other area contains this pair
abbrev pub IsOther : {D : Type 0} → (D → List ℕ) → FileState D → Pair → Type 0
IsOther image f q = pair_at (base_of f.area (not f.second)) (area_of (image f.device) f.area (not f.second)) ≡ Ok q

-- `open` finds the committed pair in an image: the selected pair
-- or, if the file is unsure, possibly the pair of the other area
abbrev pub Finds : {D : Type 0} → (D → List ℕ) → FileState D → List ℕ → Type 0
Finds image f c = MatchBool f.sure
    (found c ≡ Ok (pair_of image f))
    ((found c ≡ Ok (pair_of image f)) ⊎ ((q : Pair) × IsOther image f q × (found c ≡ Ok q)))

-- what a stop may leave: if the file is sure, only the other area may
-- differ; otherwise only the selector, and the other area contains a pair
abbrev pub Leaves : {D : Type 0} → Medium D → FileState D → Type 0
Leaves medium f = MatchBool f.sure
    ((is_second (slice_index (medium.image f.device) 512) ≡ f.second)
    × ((c : List ℕ) → medium.may_leave f.device c → Touched (base_of f.area (not f.second)) f.area (medium.image f.device) c))
    (((q : Pair) × IsOther medium.image f q) × ((c : List ℕ) → medium.may_leave f.device c → Touched 512 1 (medium.image f.device) c))

-- an honest device contains the header and the pair; what a stop may leave is described by `Leaves`
pub record Holds {D : Type 0} (medium : Medium D) (f : FileState D) : Type 0 where
  pub long : 512 < length (medium.image f.device)
  pub header : header_at (take 512 (medium.image f.device)) ≡ Ok f.area
  pub pair : pair_at (base_of f.area f.second) (area_of (medium.image f.device) f.area f.second) ≡ Ok (pair_of medium.image f)
  pub leaves : Leaves medium f

-- a legal area size; legal directories that fit in the area and
-- the device; and, if the device is honest, what it contains
pub record IsSound {D : Type 0} (medium : Medium D) (f : FileState D) : Type 0 where
  pub area : is_area f.area ≡ true
  pub current : is_directory f.current ≡ true
  pub saved : is_directory f.saved ≡ true
  pub fits : directory_length f.current + directory_length f.saved ≤ f.area
  pub within : base_of f.area f.second + (directory_length f.current + directory_length f.saved) ≤ length (medium.image f.device)
  pub holds : medium.honest f.device → Holds medium f

-- a call that reads the device, up to its first failure, and does not change the file
pub record ReadsFile {D T E : Type 0} (medium : Medium D) (old new : FileState D) (result : Result T E) : Type 0 where
  pub same : new ≡ record old { device = new.device }
  pub pair : pair_of medium.image new ≡ pair_of medium.image old
  pub read : ReadsToFailure medium old.device new.device result

-- the device has room for the header, the selector and both areas
abbrev pub HasRoom : {D : Type 0} → (D → List ℕ) → FileState D → Type 0
HasRoom image f = 1024 + 2 * f.area ≤ length (image f.device)

-- if no call within the device's length fails, and the device has
-- room for the file, then no failure was counted and the room remains
abbrev pub Steadily : {D : Type 0} → Medium D → FileState D → FileState D → Type 0
Steadily medium old new =
    IsSteady medium → HasRoom medium.image old → HasRoom medium.image new × (medium.failed new.device ≡ medium.failed old.device)

-- a directory lists a block with this handle, of so many bytes
abbrev pub HasBlock : Directory → ℕ → ℕ → Type 0
HasBlock d h len = IsSomeAnd (find (λ e. e.h == h) d.entries.items) (λ e. e.len ≡ len)

-- the bytes of the block with a handle
abbrev pub bytes_of_block : List Block → ℕ → List ℕ
bytes_of_block [] h = []
bytes_of_block (b ∷ blocks) h = if b.h == h then b.bytes else bytes_of_block blocks h

-- the offset of the bytes of the block with a handle, counted from the first entry
abbrev pub place_in : List Entry → ℕ → ℕ
place_in [] h = 0
place_in (e ∷ entries) h = if e.h == h then 6 else (6 + e.len) + place_in entries h

-- the offset of the bytes of a block of the current directory
abbrev pub block_at : {D : Type 0} → FileState D → ℕ → ℕ
block_at f h = base_of f.area f.second + 2 + place_in f.current.entries.items h

-- the offset of the bytes of a block of the saved directory, which follows the current one
abbrev pub saved_block_at : {D : Type 0} → FileState D → ℕ → ℕ
saved_block_at f h = base_of f.area f.second + directory_length f.current + 2 + place_in f.saved.entries.items h
