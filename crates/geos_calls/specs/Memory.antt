-- Memory as the model knows it: blocks by their names, with no region and no address.
use Rattle.std.specs.Prelude.{ℕ, Bool, ◌==◌, List, Option, None, option_map}
use Rattle.geos_terms.specs.declared.name.Owner.{Owner}
use Rattle.geos_terms.specs.declared.name.Owner.TheVariants.{Mem, Vm}
use Rattle.geos_terms.specs.declared.name.Name.{Name}
pub use Rattle.geos_calls.specs.Handles.{at_handle, with_entry_at, lowest_of, up_to}
pub use Rattle.geos_calls.specs.Blocks.{Heap, Block, locks_in, size_in, chunks_in, new_heap, locked_block, rechunked_block}
use Rattle.geos_calls.specs.Directories.{VmBlock, Directory, uid_in, is_marked_in, relisted, marked_block}
use Rattle.geos_terms.specs.Names.{group_uid}
use Rattle.geos_calls.specs.VmFile.{VmFile}

-- the blocks of global memory, the first with handle 1; the VM file; the length of the region, on which only a lack of
-- room depends; and the highest handle that a new block of global memory may get, on which only a lack of handles
-- depends. A list by handles has 1,024 entries
pub record Memory : Type 0 where
  pub blocks : List (Option Block)
  pub file : VmFile
  pub region : ℕ
  pub handles : ℕ

-- The current directory of the VM file

-- what the current directory lists under a handle
abbrev pub listed_at : Memory → ℕ → Option VmBlock
listed_at memory h = at_handle None memory.file.cur.blocks h

-- memory with another current directory
abbrev pub with_cur : Memory → Directory VmBlock → Memory
with_cur memory cur = record memory { file = record memory.file { cur = cur } }

-- memory with this, or nothing, listed under a handle
abbrev pub with_listed : Memory → ℕ → Option VmBlock → Memory
with_listed memory h listed = with_cur memory (record memory.file.cur { blocks = with_entry_at memory.file.cur.blocks h listed })

-- a block of the VM file is marked as changed
abbrev pub is_marked : Memory → ℕ → Bool
is_marked memory h = is_marked_in (listed_at memory h)

-- a handle of the VM file names a group
abbrev pub is_group : Memory → ℕ → Bool
is_group memory h = uid_in (listed_at memory h) == group_uid

-- a block of the VM file is marked, or not
abbrev pub with_mark : Memory → ℕ → Bool → Memory
with_mark memory h marked = with_listed memory h (option_map (marked_block marked) (listed_at memory h))

-- Blocks of both owners

-- the block of an owner with a handle
abbrev pub owned_block : Memory → Owner → ℕ → Option Block
owned_block memory Mem h = at_handle None memory.blocks h
owned_block memory Vm h = option_map (λ (listed : VmBlock). listed.block) (listed_at memory h)

-- memory with this block, or none, under a handle of an owner; the user ID and the mark of a
-- block of the VM file stay
abbrev pub with_owned_block : Memory → Owner → ℕ → Option Block → Memory
with_owned_block memory Mem h block = record memory { blocks = with_entry_at memory.blocks h block }
with_owned_block memory Vm h block = with_listed memory h (option_map (relisted (listed_at memory h)) block)

-- the block of a name
abbrev pub block_of : Memory → Name → Option Block
block_of memory name = owned_block memory name.owner name.h

-- memory with this block, or none, under a name; a name that no block can have changes nothing
abbrev pub with_block : Memory → Name → Option Block → Memory
with_block memory name block = with_owned_block memory name.owner name.h block

-- how often a named block is locked
abbrev pub locks_of : Memory → Name → ℕ
locks_of memory name = locks_in (block_of memory name)

-- the size of a named block
abbrev pub size_of : Memory → Name → ℕ
size_of memory name = size_in (block_of memory name)

-- the chunks of a named block
abbrev pub chunks_at : Memory → Name → List (Option (List ℕ))
chunks_at memory name = chunks_in (block_of memory name)

-- the lowest handle of an owner that names no block, if a new block may get it
abbrev pub lowest_handle : Memory → Owner → Option ℕ
lowest_handle memory Mem = up_to memory.handles (lowest_of memory.blocks)
lowest_handle memory Vm = lowest_of memory.file.cur.blocks

-- a named block is locked n times
abbrev pub with_locks : Memory → Name → ℕ → Memory
with_locks memory name n = with_block memory name (option_map (locked_block n) (block_of memory name))

-- a named block has other chunks
abbrev pub with_chunks : Memory → Name → List (Option (List ℕ)) → Memory
with_chunks memory name chunks = with_block memory name (option_map (rechunked_block chunks) (block_of memory name))
