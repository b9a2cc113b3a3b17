-- Refusals of calls on VM blocks, as the kernel's.
use Rattle.std.specs.Prelude.{ℕ, Option, Some, None, Result, Ok, Err}
use Rattle.geos_terms.specs.declared.refusal.Refusal.{Refusal}
use Rattle.geos_terms.specs.declared.refusal.Refusal.TheVariants as refusal
use Rattle.vm_blocks.specs.declared.error.BringError.{BringError}
use Rattle.vm_blocks.specs.declared.error.BringError.TheVariants as bring
use Rattle.vm_blocks.specs.declared.error.LockError.{LockError}
use Rattle.vm_blocks.specs.declared.error.LockError.TheVariants as lock
use Rattle.vm_blocks.specs.declared.error.NewError.{NewError}
use Rattle.vm_blocks.specs.declared.error.NewError.TheVariants as new
use Rattle.vm_blocks.specs.declared.error.FreeError.{FreeError}
use Rattle.vm_blocks.specs.declared.error.FreeError.TheVariants as free
use Rattle.vm_file.specs.declared.error.CommitError.{CommitError}
use Rattle.vm_file.specs.declared.error.CommitError.TheVariants as commit

-- why a block was not brought into memory
abbrev pub why_not_brought : BringError → Refusal
why_not_brought bring.BadHandle = refusal.BadHandle
why_not_brought bring.NoRoom = refusal.NoRoom
why_not_brought bring.Disk = refusal.Disk

-- the same of a result
abbrev pub of_bring : Result (Unit {0}) BringError → Result (Unit {0}) Refusal
of_bring (Ok done) = Ok tt
of_bring (Err why) = Err (why_not_brought why)

-- why a block that was not brought was not locked
abbrev pub lock_error_of : BringError → LockError
lock_error_of bring.BadHandle = lock.BadHandle
lock_error_of bring.NoRoom = lock.NoRoom
lock_error_of bring.Disk = lock.Disk

-- why a block was not locked
abbrev pub why_not_locked : LockError → Refusal
why_not_locked lock.BadHandle = refusal.BadHandle
why_not_locked lock.Locked = refusal.Locked
why_not_locked lock.NoRoom = refusal.NoRoom
why_not_locked lock.Disk = refusal.Disk

-- the same of a result
abbrev pub of_lock : Result (Unit {0}) LockError → Result (Unit {0}) Refusal
of_lock (Ok done) = Ok tt
of_lock (Err why) = Err (why_not_locked why)

-- why no block was made
abbrev pub why_not_made : NewError → Refusal
why_not_made new.NoHandle = refusal.NoHandle
why_not_made new.NoRoom = refusal.NoRoom

-- the same of a result
abbrev pub of_new : Result ℕ NewError → Result ℕ Refusal
of_new (Ok h) = Ok h
of_new (Err why) = Err (why_not_made why)

-- why a block was not freed
abbrev pub why_not_freed : FreeError → Refusal
why_not_freed free.BadHandle = refusal.BadHandle
why_not_freed free.Locked = refusal.Locked

-- the same of a result
abbrev pub of_free : Result (Unit {0}) FreeError → Result (Unit {0}) Refusal
of_free (Ok done) = Ok tt
of_free (Err why) = Err (why_not_freed why)

-- the user ID of the block with a handle, if there is one
abbrev pub of_uid : Option ℕ → Result ℕ Refusal
of_uid None = Err refusal.BadHandle
of_uid (Some uid) = Ok uid

-- why nothing was committed
abbrev pub why_not_kept : CommitError → Refusal
why_not_kept commit.Unsure = refusal.Unsure
why_not_kept commit.TooBig = refusal.TooBig
why_not_kept commit.Memory = refusal.Memory
why_not_kept commit.Disk = refusal.Disk

-- the same of a result
abbrev pub of_commit : Result (Unit {0}) CommitError → Result (Unit {0}) Refusal
of_commit (Ok done) = Ok tt
of_commit (Err why) = Err (why_not_kept why)
