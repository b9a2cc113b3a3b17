-- Limits on the bytes of all blocks in memory, and on the handles of new ones.
use Rattle.std.specs.Prelude.{ℕ, ◌+◌, ◌-◌, min}
use Rattle.block_handles.specs.Change.{with_handles, with_most}
use Rattle.block_handles.specs.Store.{region_len}
use Rattle.block_handles.specs.Stretch.{all_sizes}
use Rattle.geos_kernel.specs.View.{KernelState}

-- all blocks together may have so many bytes more than they have, at most the whole region
abbrev pub with_room : KernelState → ℕ → KernelState
with_room s more = record s { blocks = with_most s.blocks (min more (region_len s.blocks - all_sizes s.blocks) + all_sizes s.blocks) }

-- new blocks of global memory may get handles up to this one
abbrev pub with_last_handle : KernelState → ℕ → KernelState
with_last_handle s handles = record s { blocks = with_handles s.blocks handles }
