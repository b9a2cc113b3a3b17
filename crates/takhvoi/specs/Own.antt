-- When a call returns a number of the library's own, from 100 on. It returns 100 only if the handle has no kernel; it may return 111 at any
-- time, since the kit has no predicate for a refusal of the allocator.
use Rattle.std.specs.Prelude.{◌≡◌, ◌<◌, ◌+◌, ◌⊎◌, ℕ, [], false}
use Rattle.block_handles.specs.Names.{slot_of}
use Rattle.block_handles.specs.Store.{locks_of}
use Rattle.geos_terms.specs.declared.name.Owner.TheVariants.{Vm}
use Rattle.geos_terms.specs.declared.name.Name.{Name}
use Rattle.vm_blocks.specs.Blocks.{is_marked_in}
use Rattle.vm_blocks.specs.Listed.{NoneLocked}
use Rattle.vm_blocks.specs.View.{held_at}
use Rattle.host_device.specs.Journal.{journal_of}
use Rattle.takhvoi.specs.declared.system.System.{System}
use Rattle.takhvoi.specs.declared.handle.Handle.{Handle}
use Rattle.takhvoi.specs.Answers.{ChangesIn, Served}

-- never
abbrev pub NoOwn : ℕ → System → Type 0
NoOwn status s = ⊥

-- 101: the block is not locked
abbrev pub NotLocked : Name → ℕ → System → Type 0
NotLocked name status s = (status ≡ 101) × (locks_of s.kernel.core.blocks (slot_of name) ≡ 0)

-- 102: the block is one of the VM file, and not marked
abbrev pub NotMarked : Name → ℕ → System → Type 0
NotMarked name status s = (status ≡ 102) × (name.owner ≡ Vm) × (is_marked_in (held_at s.kernel.core.vm name.h) ≡ false)

-- 103: a block of the VM file is locked
abbrev pub FileLocked : ℕ → System → Type 0
FileLocked status s = (status ≡ 103) × (NoneLocked s.kernel.core.blocks → ⊥)

-- 105: so many bytes from an offset on end past 65,535
abbrev pub PastChunk : ℕ → ℕ → ℕ → Type 0
PastChunk at n status = (status ≡ 105) × (65535 < at + n)

-- 106: the host has not performed every note
abbrev pub IsPending : ℕ → System → Type 0
IsPending status s = (status ≡ 106) × (journal_of s.kernel.device ≡ [] → ⊥)

-- 106: the block is one of the VM file, and the host has not performed every note
abbrev pub IsPendingIn : Name → ℕ → System → Type 0
IsPendingIn name status s = (name.owner ≡ Vm) × IsPending status s

-- 101 or 106: the block may not be marked
abbrev pub MayNotMark : Name → ℕ → System → Type 0
MayNotMark name status s = NotLocked name status s ⊎ IsPending status s

-- 101, 102 or 106: the chunks of the block may not be changed
abbrev pub MayNotChange : Name → ℕ → System → Type 0
MayNotChange name status s = NotLocked name status s ⊎ (NotMarked name status s ⊎ IsPendingIn name status s)

-- 103 or 106: a commit may not begin
abbrev pub MayNotCommit : ℕ → System → Type 0
MayNotCommit status s = FileLocked status s ⊎ IsPending status s

-- 101 or 105: these bytes of the block may not be read
abbrev pub MayNotRead : Name → ℕ → ℕ → ℕ → System → Type 0
MayNotRead name at n status s = NotLocked name status s ⊎ PastChunk at n status

-- 101, 102, 105 or 106: these bytes of the block may not be written
abbrev pub MayNotWrite : Name → ℕ → ℕ → ℕ → System → Type 0
MayNotWrite name at n status s = MayNotChange name status s ⊎ PastChunk at n status

-- a call on the kernel of a handle that changes chunks of a block
abbrev pub ServesChange : Name → (ℕ → System → System → Type 0) → ℕ → Handle → Handle → Type 0
ServesChange name came = Served (MayNotChange name) (ChangesIn name came)
