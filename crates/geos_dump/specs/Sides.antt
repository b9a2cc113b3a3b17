-- What is seen on either side of a file that is only read.
use Rattle.std.specs.Prelude.{◌≡◌, ◌≤◌, ℕ, List, [], Result, Ok, Err, slice_index_or}
use Rattle.geos_terms.specs.Heap.{most_block_bytes}
use Rattle.vm_file.specs.declared.directory.Directory.{Directory}
use Rattle.vm_file.specs.declared.directory.Entry.{Entry}
use Rattle.vm_file.specs.Contents.{Block, Contents, Pair}
use Rattle.vm_file.specs.Device.{Medium, Rose}
use Rattle.vm_file.specs.Outcomes.{ReadsOnly}
use Rattle.vm_file.specs.State.{FileState, HasBlock, bytes_of_block, pair_of}
use Rattle.geos_dump.specs.declared.error.DumpError.{DumpError}
use Rattle.geos_dump.specs.declared.error.DumpError.TheVariants.{Disk, Memory}
use Rattle.geos_dump.specs.declared.sides.Side.{Side}
use Rattle.geos_dump.specs.declared.sides.Side.TheVariants.{Current, Saved}

-- the contents of a pair on a side
abbrev pub contents_on : Side → Pair → Contents
contents_on Current p = p.cur
contents_on Saved p = p.saved

-- the directory of a file on a side
abbrev pub directory_on : {D : Type 0} → Side → FileState D → Directory
directory_on Current f = f.current
directory_on Saved f = f.saved

-- the block of an entry, among these
abbrev pub block_of : Entry → List Block → Block
block_of e blocks = record { h = e.h; uid = e.uid; bytes = bytes_of_block blocks e.h }

-- the default for a block that does not exist
abbrev pub no_block : Block
no_block = record { h = 0; uid = 0; bytes = [] }

-- the entry of the block with a number: the directory has a block under its handle at its length, a legal one, and that is the block
pub record IsEntryOf (d : Directory) (blocks : List Block) (i : ℕ) (e : Entry) : Type 0 where
  pub has : HasBlock d e.h e.len
  pub size : e.len ≤ most_block_bytes
  pub is : block_of e blocks ≡ slice_index_or blocks i no_block

-- a file that was only read: only its device may differ, it has the same pair, and nothing was written
pub record IsOnlyRead {D : Type 0} (medium : Medium D) (old new : FileState D) : Type 0 where
  pub same : new ≡ record old { device = new.device }
  pub pair : pair_of medium.image new ≡ pair_of medium.image old
  pub reads : ReadsOnly medium old.device new.device

-- on an honest device, the error `Disk` is returned only if a failure was counted; with any other result none was
-- counted
abbrev pub Causes : {X : Type 0} → Type 0 → ℕ → ℕ → Result X DumpError → Type 0
Causes honest before now (Ok x) = now ≡ before
Causes honest before now (Err Disk) = honest → Rose before now
Causes honest before now (Err Memory) = now ≡ before
