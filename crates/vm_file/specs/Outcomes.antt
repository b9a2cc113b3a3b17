-- How calls that read a device end.
use Rattle.std.specs.Prelude.{◌≡◌, ◌⊎◌, ℕ, List, length, Result, Ok, Err, OnErr, OnOk, IsOkAnd, MatchResult}
use Rattle.arrayvec.specs.ArrayVec.{ArrayVec}
use Rattle.geos_terms.specs.Block.{handle_word}
use Rattle.geos_terms.specs.Heap.{IsHeap}
use Rattle.vm_file.specs.declared.device.Disk.{Disk}
use Rattle.vm_file.specs.declared.directory.Entry.{Entry}
use Rattle.vm_file.specs.declared.error.OpenError.{OpenError}
use Rattle.vm_file.specs.declared.error.OpenError.TheVariants as open_error
use Rattle.vm_file.specs.Device.{AfterWrite, FailedOnce, Medium, NoneFails, Only, Passes, Rose, Touched}

-- a device on which nothing was written: reads return the same, and a stop leaves nothing new
pub record ReadsOnly {D : Type 0} (medium : Medium D) (old new : D) : Type 0 where
  pub same : medium.image new ≡ medium.image old
  pub stays : medium.honest old → medium.honest new
  pub was : medium.honest new → medium.honest old
  pub stop : medium.honest old → (c : List ℕ) → medium.may_leave new c → medium.may_leave old c
  pub time : medium.honest old → Passes medium.may_have_left old new (medium.may_leave old)

-- a call that reads a device within its length, up to the first call of it that fails
pub record ReadsToFailure {D T E : Type 0} (medium : Medium D) (old new : D) (result : Result T E) : Type 0 where
  pub only : ReadsOnly medium old new
  pub ok : OnOk result (medium.failed new ≡ medium.failed old)
  pub once : FailedOnce (medium.failed old) (medium.failed new)
  pub steady : NoneFails medium old new

-- why a file was not opened: the fault in what was read; lack of memory and a device error say nothing about the bytes
abbrev pub IsRefused : {Y : Type 0} → OpenError → Result Y ℕ → Type 0
IsRefused (open_error.BadFile at) read = read ≡ Err at
IsRefused open_error.Disk read = Unit {0}
IsRefused open_error.Memory read = Unit {0}

-- the error is `Disk` if and only if a failure of the device was counted
abbrev pub IsCaused : ℕ → ℕ → OpenError → Type 0
IsCaused before now (open_error.BadFile at) = now ≡ before
IsCaused before now open_error.Disk = Rose before now
IsCaused before now open_error.Memory = now ≡ before

-- a call returned what the specification reads, seen through `view`, or an error that the specification allows
abbrev pub Tells : {X Y : Type 0} → (Y → X) → Result X OpenError → Result Y ℕ → Type 0
Tells view (Ok x) read = IsOkAnd read (λ y. view y ≡ x)
Tells view (Err e) read = IsRefused e read

-- the result is the error `Disk` if and only if a failure of the device was counted
abbrev pub Causes : {X : Type 0} → ℕ → ℕ → Result X OpenError → Type 0
Causes before now result = MatchResult result (λ x. now ≡ before) (λ e. IsCaused before now e)

-- the same for a call whose only error is a device error
abbrev pub CausesDisk : {X E : Type 0} → ℕ → ℕ → Result X E → Type 0
CausesDisk before now result = MatchResult result (λ x. now ≡ before) (λ e. Rose before now)

-- the result with the list of a vector instead of the vector
abbrev pub items_of : {X E : Type 0} → Result (ArrayVec X) E → Result (List X) E
items_of (Ok v) = Ok v.items
items_of (Err e) = Err e

-- a device on which only n bytes from an offset on were written; a stop may leave only some of them
pub record WritesOnly {D : Type 0} (medium : Medium D) (at n : ℕ) (old new : D) : Type 0 where
  pub long : length (medium.image new) ≡ length (medium.image old)
  pub stays : medium.honest old → medium.honest new
  pub was : medium.honest new → medium.honest old
  pub torn : medium.honest old → Touched at n (medium.image old) (medium.image new)
  pub stop : medium.honest old → (c : List ℕ) → medium.may_leave new c → AfterWrite at n (medium.may_leave old) c
  pub time : medium.honest old → Passes medium.may_have_left old new (AfterWrite at n (medium.may_leave old))

-- after a stop at any moment between two states, a device has what
-- an earlier stop could have left, with any bytes in this range
abbrev pub LeavesBytes : {D : Type 0} → Medium D → ℕ → ℕ → D → D → Type 0
LeavesBytes medium at n old new = medium.honest old → (c : List ℕ) → medium.may_have_left old new c → AfterWrite at n (medium.may_leave old) c

-- after a stop between two states, a device on which nothing was written has what an earlier stop could have left
abbrev pub LeavesAlike : {D : Type 0} → Medium D → D → D → Type 0
LeavesAlike medium old new = medium.honest old → (c : List ℕ) → medium.may_have_left old new c → medium.may_leave old c

-- the bytes are a heap under this handle
abbrev pub IsHeapUnder : ℕ → List ℕ → Type 0
IsHeapUnder h bytes = IsHeap bytes × (handle_word bytes ≡ h)

-- one read from an offset on returned these bytes, which are no heap under this handle
abbrev pub GivesNoBlock : {D : Type 0} → Medium D → ℕ → ℕ → D → D → List ℕ → Type 0
GivesNoBlock medium h at old new bytes = medium.reads old at bytes (Ok tt) new × (IsHeapUnder h bytes → ⊥)

-- if a block was not read, a failure was counted, or its bytes were returned and are no heap under its handle
abbrev pub CausesNoBlock : {D X E : Type 0} → Medium D → ℕ → ℕ → D → D → List ℕ → Result X E → Type 0
CausesNoBlock medium h at old new bytes result = OnErr result (Rose (medium.failed old) (medium.failed new) ⊎ GivesNoBlock medium h at old new bytes)

-- an entry of a block with this handle and length
abbrev pub IsOfBlock : ℕ → ℕ → Entry → Type 0
IsOfBlock h n e = (e.h ≡ h) × (e.len ≡ n)

-- a call only read; its last read returned bytes with the length of
-- one of these entries that are no heap under the entry's handle
pub record FindsNoBlock {D : Type 0} (medium : Medium D) (of : Entry → Type 0) (old new : D) : Type 0 where
  pub entry : Entry
  pub listed : of entry
  pub before : D
  pub only : ReadsOnly medium old before
  pub ok : medium.failed before ≡ medium.failed old
  pub at : ℕ
  pub bytes : List ℕ
  pub long : length bytes ≡ entry.len
  pub gave : GivesNoBlock medium entry.h at before new bytes

-- if blocks of these entries were not read, a failure was
-- counted, or bytes of one of them were no heap under its handle
abbrev pub CausesNoBlocks : {D X E : Type 0} → Medium D → (Entry → Type 0) → D → D → Result X E → Type 0
CausesNoBlocks medium of old new result = OnErr result (Rose (medium.failed old) (medium.failed new) ⊎ FindsNoBlock medium of old new)

-- a call begins with a sync. If the sync fails, the call fails at
-- once; otherwise it only reads, and a stop leaves what reads return
pub record BeginsWithSync {D : Type 0} (medium : Medium D) (fails : Type 0) (old new : D) : Type 0 where
  pub answer : Result (Unit {0}) Disk
  pub synced : D
  pub sync : medium.syncs old answer synced
  pub refused : OnErr answer ((new ≡ synced) × fails)
  pub reads : OnOk answer (ReadsOnly medium synced new)
  pub lasts : OnOk answer (medium.honest old → Only (medium.image new) (medium.may_leave new))
