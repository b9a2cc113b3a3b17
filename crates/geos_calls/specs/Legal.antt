-- What every memory of a kernel is.
use Rattle.std.specs.Prelude.{◌≡◌, ◌≢◌, ℕ, ◌%◌, ◌<◌, ◌≤◌, List, length, Option, Some, None, option_map, All, IfSome, IsSomeAnd}
pub use Rattle.geos_terms.specs.Bytes.{AreBytes}
use Rattle.geos_terms.specs.Chunks.{need}
use Rattle.geos_terms.specs.Heap.{most_block_bytes}
use Rattle.geos_calls.specs.Directories.{VmBlock, KeptBlock, Directory}
use Rattle.geos_terms.specs.Names.{group_uid}
use Rattle.geos_calls.specs.VmFile.{Pair, Kept, Sure, Unsure, VmFile}
use Rattle.geos_calls.specs.Memory.{Heap, Block, Memory, at_handle}
use Rattle.geos_calls.specs.Effects.{most_locks}

-- an entry of a chunk handle table has a chunk of bytes, or none
abbrev pub IsChunk : Option (List ℕ) → Type 0
IsChunk None = Unit {0}
IsChunk (Some bytes) = AreBytes bytes

-- entries of a chunk handle table: chunks of bytes, or none; in pairs, one pair at least
pub record AreChunks (chunks : List (Option (List ℕ))) : Type 0 where
  pub bytes : All IsChunk chunks
  pub pairs : length chunks % 2 ≡ 0
  pub some : 2 ≤ length chunks

-- legal chunks, in a block of a legal size that has room for them
pub record IsLegalHeap (heap : Heap) : Type 0 where
  pub chunks : AreChunks heap.chunks
  pub least : 64 ≤ heap.size
  pub most : heap.size ≤ most_block_bytes
  pub sixteens : heap.size % 16 ≡ 0
  pub fits : need heap.chunks ≤ heap.size

-- a block with a legal heap, whose lock count is at most 65,535
pub record IsLegalBlock (block : Block) : Type 0 where
  pub heap : IsLegalHeap block.heap
  pub few : block.locks ≤ most_locks

-- a block of the current directory: its user ID is a word
pub record IsLegalListed (listed : VmBlock) : Type 0 where
  pub uid : listed.uid < 65536
  pub block : IsLegalBlock listed.block

-- the same for a block on the device
pub record IsLegalKept (kept : KeptBlock) : Type 0 where
  pub uid : kept.uid < 65536
  pub heap : IsLegalHeap kept.heap

-- the user ID that a directory lists under a handle
abbrev pub uid_at : {B : Type 0} → (B → ℕ) → Directory B → ℕ → Option ℕ
uid_at uid directory h = option_map uid (at_handle None directory.blocks h)

-- the maps of a directory, by the user IDs of its blocks: a map block that is not 0 is one of its blocks and no
-- group; a map item is in a group, unless that is 0. The item is a word, and is 0 if its group is
pub record HasMaps {B : Type 0} (uid : B → ℕ) (directory : Directory B) : Type 0 where
  pub map_block : directory.map_block ≢ 0 → IsSomeAnd (uid_at uid directory directory.map_block) (λ u. u ≢ group_uid)
  pub map_group : directory.map_group ≢ 0 → IsSomeAnd (uid_at uid directory directory.map_group) (λ u. u ≡ group_uid)
  pub no_item : directory.map_group ≡ 0 → directory.map_item ≡ 0
  pub word : directory.map_item < 65536

-- 1,024 handles, each block a legal one, and legal maps
pub record IsLegalDirectory {B : Type 0} (legal : B → Type 0) (uid : B → ℕ) (directory : Directory B) : Type 0 where
  pub handles : length directory.blocks ≡ 1024
  pub blocks : (h : ℕ) → IfSome (at_handle None directory.blocks h) legal
  pub maps : HasMaps uid directory

-- the current directory
abbrev pub IsCurrent : Directory VmBlock → Type 0
IsCurrent directory = IsLegalDirectory IsLegalListed (λ (b : VmBlock). b.uid) directory

-- a directory on the device
abbrev pub IsStored : Directory KeptBlock → Type 0
IsStored directory = IsLegalDirectory IsLegalKept (λ (b : KeptBlock). b.uid) directory

-- a legal pair
abbrev pub IsPair : Pair → Type 0
IsPair pair = IsStored pair.cur × IsStored pair.saved

-- the contents of the device: a legal pair, or one of two
abbrev pub ArePairs : Kept → Type 0
ArePairs (Sure p) = IsPair p
ArePairs (Unsure p q) = IsPair p × IsPair q

-- a VM file whose directories are legal: also those that a revert, or another opening, brings
-- back
pub record IsFile (file : VmFile) : Type 0 where
  pub cur : IsCurrent file.cur
  pub saved : IsStored file.saved
  pub kept : ArePairs file.kept

-- 1,024 handles, each block a legal one, and a legal file
pub record IsMemory (memory : Memory) : Type 0 where
  pub handles : length memory.blocks ≡ 1024
  pub blocks : (h : ℕ) → IfSome (at_handle None memory.blocks h) IsLegalBlock
  pub file : IsFile memory.file
