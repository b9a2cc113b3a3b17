-- The stretches of the region between locked blocks, and when none of them has room.
use Rattle.std.specs.Prelude.{◌≡◌, ◌≢◌, ℕ, zero, suc, ◌+◌, ◌*◌, ◌<◌, ◌≤◌, ◌⊎◌, nat_le, nat_eq, ◌&&◌, if◌then◌else◌}
use Rattle.block_handles.specs.Store.{Store, size_of, locks_of, place_of, end_of, slot_count, most_of, region_len}

-- f at each number below n, added
abbrev pub total : ℕ → (ℕ → ℕ) → ℕ
total zero f = 0
total (suc n) f = f n + total n f

-- f of a block that lies from one offset to another, and 0 of every other
abbrev pub only_in : Store → ℕ → ℕ → (ℕ → ℕ) → ℕ → ℕ
only_in store from until f slot = if nat_le from (place_of store slot) && nat_le (end_of store slot) until then f slot else 0

-- f of each block that lies from one offset to another, added
abbrev pub sum_in : Store → ℕ → ℕ → (ℕ → ℕ) → ℕ
sum_in store from until f = total (slot_count store) (only_in store from until f)

-- the size of a block, 0 for this block
abbrev pub other_size : Store → ℕ → ℕ → ℕ
other_size store but slot = if nat_eq slot but then 0 else size_of store slot

-- the size of an unlocked block, 0 for this block and for locked ones
abbrev pub unlocked_size : Store → ℕ → ℕ → ℕ
unlocked_size store but slot = if nat_eq (locks_of store slot) 0 then other_size store but slot else 0

-- 1 for a locked block that is another than this one
abbrev pub locked_one : Store → ℕ → ℕ → ℕ
locked_one store but slot = if nat_eq slot but then 0 else if nat_eq (locks_of store slot) 0 then 0 else 1

-- a locked block that is another than this one
abbrev pub IsOtherLocked : Store → ℕ → ℕ → Type 0
IsOtherLocked store but slot = (slot ≢ but) × (0 < locks_of store slot)

-- a stretch: a maximal range between locked blocks or the ends
-- of the region; the whole region if no other block is locked
pub record IsStretch (store : Store) (but from until : ℕ) : Type 0 where
  pub ordered : from ≤ until
  pub begins : (from ≡ 0) ⊎ ((slot : ℕ) × IsOtherLocked store but slot × (end_of store slot ≡ from))
  pub ends : (until ≡ region_len store) ⊎ ((slot : ℕ) × IsOtherLocked store but slot × (place_of store slot ≡ until))
  pub between : (slot : ℕ) → IsOtherLocked store but slot → (end_of store slot ≤ from) ⊎ (until ≤ place_of store slot)

-- each stretch is too short for a request beside the other unlocked blocks that lie in it
abbrev pub IsFull : Store → ℕ → ℕ → Type 0
IsFull store but size = (from until : ℕ) → IsStretch store but from until → until < from + size + sum_in store from until (unlocked_size store but)

-- the sizes of all blocks
abbrev pub all_sizes : Store → ℕ
all_sizes store = total (slot_count store) (size_of store)

-- how many other blocks are locked
abbrev pub other_locked : Store → ℕ → ℕ
other_locked store but = total (slot_count store) (locked_one store but)

-- the sizes of all other blocks
abbrev pub other_sizes : Store → ℕ → ℕ
other_sizes store but = total (slot_count store) (other_size store but)

-- the request, once for each stretch, and all other blocks together need more than an amount
abbrev pub NeedsMore : ℕ → Store → ℕ → ℕ → Type 0
NeedsMore bytes store but size = bytes < (other_locked store but + 1) * size + other_sizes store but

-- no stretch of the region has room for a request
pub record HasNoStretch (store : Store) (but size : ℕ) : Type 0 where
  pub full : IsFull store but size
  pub crowded : NeedsMore (region_len store) store but size

-- the request, once for each stretch, and all other blocks together need more than blocks may have
abbrev pub IsCrowded : Store → ℕ → ℕ → Type 0
IsCrowded store but size = NeedsMore (most_of store) store but size

-- with the request, all blocks together would have more bytes than they may
abbrev pub IsOver : Store → ℕ → ℕ → Type 0
IsOver store but size = most_of store < size + other_sizes store but

-- a request has no room beside the other blocks: it is over the limit, or no stretch has room
pub record HasNoRoom (store : Store) (but size : ℕ) : Type 0 where
  pub full : IsOver store but size ⊎ IsFull store but size
  pub crowded : IsCrowded store but size

-- the lock count of a block of the VM file, and 0 of one of global memory
abbrev pub vm_locks_at : Store → ℕ → ℕ
vm_locks_at store slot = if nat_le 1024 slot then locks_of store slot else 0

-- how often the blocks of the VM file are locked, all together
abbrev pub vm_locks : Store → ℕ
vm_locks store = total (slot_count store) (vm_locks_at store)
