-- Stages of a script, and calls of the kernel that lead from one to another.
use Rattle.std.specs.Prelude.{◌≡◌, ◌⊎◌, ℕ, List, [], ◌∷◌, ◌++◌, ◌+◌, ◌==◌, true, if◌then◌else◌, Result, Ok, Err}
use Rattle.geos_terms.specs.declared.refusal.Refusal.{Refusal}
use Rattle.geos_calls.specs.Memory as model
use Rattle.geos_calls.specs.VmFile.{Kept, VmFile}
use Rattle.geos_calls.specs.Effects.{Choice, Call, outcome, effect_of}
use Rattle.geos_calls.specs.VmCalls.{vdirty, vlock, vunlock}
use Rattle.geos_kernel.specs.View.{KernelState, failed_in, memory_of}
use Rattle.geos_kernel.specs.Kernel.{HasRisen}
use Rattle.block_handles.specs.Store.{Store, locks_of}
use Rattle.vm_blocks.specs.View.{vm_slot}

-- the state of a script: the memory, and how often the device has failed
pub record Stage : Type 0 where
  pub memory : model.Memory
  pub failed : ℕ

-- the stage of a kernel, with a VM file that the model may know
abbrev pub stage_of : KernelState → VmFile → Stage
stage_of kernel f = record { memory = memory_of kernel f; failed = failed_in kernel }

-- which choices are allowed at a command, given how often the device had failed before it and after it
abbrev pub Allows : Type 1
Allows = ℕ → ℕ → Choice → Type 0

-- the choices of an honest device: it returns no wrong bytes; it refuses only if a failure was counted during this
-- command; and the count of failures never falls
pub record IsAllowed (honest : Type 0) (before now : ℕ) (choice : Choice) : Type 0 where
  pub given : honest → choice.given ≡ []
  pub device : honest → choice.device ≡ true → HasRisen before now
  pub lasts : honest → (now ≡ before) ⊎ HasRisen before now

-- a transition from one stage to another, with the committed pair of each state in between
abbrev pub Way : Type 1
Way = Stage → Stage → List Kept → Type 0

-- a call of the kernel returns this result under an allowed choice
abbrev pub Comes : {A : Type 0} → Allows → Call A → Result A Refusal → Stage → Stage → List Kept → Type 0
Comes allows row result before after keeps =
    (choice : Choice)
    × allows before.failed after.failed choice
    × (outcome (effect_of row choice before.memory) ≡ (result, after.memory))
    × (keeps ≡ before.memory.file.kept ∷ after.memory.file.kept ∷ [])

-- one transition, then another
abbrev pub Then : Way → Way → Stage → Stage → List Kept → Type 0
Then first second before after keeps =
    (between : Stage) × (own : List Kept) × (rest : List Kept) × first before between own × second between after rest × (keeps ≡ own ++ rest)

-- nothing happens
abbrev pub Stays : Stage → Stage → List Kept → Type 0
Stays before after keeps = (after ≡ before) × (keeps ≡ before.memory.file.kept ∷ [])

-- a block of the file is locked once more
abbrev pub LocksOne : Allows → ℕ → Way
LocksOne allows h = Comes allows (vlock h) (Ok tt)

-- it is not, with this refusal
abbrev pub NotLocked : Allows → ℕ → Refusal → Way
NotLocked allows h why = Comes allows (vlock h) (Err why)

-- a locked block of the file is marked as changed
abbrev pub MarksOne : Allows → ℕ → Way
MarksOne allows h = Comes allows (vdirty h) (Ok tt)

-- it is unlocked once
abbrev pub UnlocksOne : Allows → ℕ → Way
UnlocksOne allows h = Comes allows (vunlock h) (Ok tt)

-- a transition, then locks of blocks, one after another
abbrev pub LockedBehind : Allows → Way → List ℕ → Way
LockedBehind allows way [] = way
LockedBehind allows way (h ∷ handles) = LockedBehind allows (Then way (LocksOne allows h)) handles

-- a transition, then unlocks of blocks, one after another
abbrev pub UnlockedBehind : Allows → Way → List ℕ → Way
UnlockedBehind allows way [] = way
UnlockedBehind allows way (h ∷ handles) = UnlockedBehind allows (Then way (UnlocksOne allows h)) handles

-- blocks are locked, one after another
abbrev pub Locks : Allows → List ℕ → Way
Locks allows handles = LockedBehind allows Stays handles

-- and unlocked
abbrev pub Unlocks : Allows → List ℕ → Way
Unlocks allows handles = UnlockedBehind allows Stays handles

-- how often a handle is that of the block: once, or not
abbrev pub once : ℕ → ℕ → ℕ
once h g = if h == g then 1 else 0

-- how often the block's handle is in a list
abbrev pub times : ℕ → List ℕ → ℕ
times g [] = 0
times g (h ∷ handles) = once h g + times g handles

-- each block of the file is locked as often as before, and once more for each time that its handle is among these
abbrev pub LockedMore : Store → Store → List ℕ → Type 0
LockedMore old new handles = (g : ℕ) → locks_of new (vm_slot g) ≡ locks_of old (vm_slot g) + times g handles
