-- When there may be no room for a block.
use Rattle.std.specs.Prelude.{ℕ, ◌+◌, ◌*◌, Bool, nat_lt, if◌then◌else◌, List, ◌++◌, map, sum_by, count_by, Option, Some, None}
use Rattle.geos_terms.specs.declared.name.Name.{Name}
use Rattle.geos_calls.specs.Directories.{VmBlock, is_held}
use Rattle.geos_calls.specs.Memory.{Block, Memory, locks_in, size_in, with_block}

-- a block is locked
abbrev pub is_locked : Option Block → Bool
is_locked block = nat_lt 0 (locks_in block)

-- a block of the VM file if it stays in memory, because it is marked or locked; otherwise none
abbrev pub staying : Option VmBlock → Option Block
staying None = None
staying (Some listed) = if is_held listed then Some listed.block else None

-- the blocks that stay in memory: those of global memory, and the marked or locked ones of the
-- VM file
abbrev pub staying_blocks : Memory → List (Option Block)
staying_blocks memory = memory.blocks ++ map staying memory.file.cur.blocks

-- those but that of one name
abbrev pub others : Memory → Name → List (Option Block)
others memory name = staying_blocks (with_block memory name None)

-- there may be no room for a named block of this size: this size, once for the block and once more for each other
-- locked block, together with all other blocks that stay in memory, exceeds the region
abbrev pub is_tight : Memory → Name → ℕ → Bool
is_tight memory name size =
    nat_lt memory.region ((count_by is_locked (others memory name) + 1) * size + sum_by size_in (others memory name))
