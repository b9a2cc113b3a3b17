-- The results of calls that list handles.
use Rattle.std.specs.Prelude.{◌≡◌, ℕ, zero, suc, Bool, not, if◌then◌else◌, List, [], ◌∷◌, ◌++◌, length, is_none, Ok, OnOk, Result}
use Rattle.lmem_raw.specs.Bytes.{with_part}
use Rattle.geos_terms.specs.Chunks.{chunk_of}
use Rattle.geos_terms.specs.Names.{mem, vm}
use Rattle.geos_terms.specs.declared.name.Name.{Name}
use Rattle.geos_terms.specs.declared.refusal.Refusal.{Refusal}
use Rattle.geos_calls.specs.VmFile.{VmFile}
use Rattle.geos_calls.specs.Memory.{Memory, block_of, chunks_at, listed_at}
use Rattle.geos_calls.specs.Effects.{Call, bringing, tells}
use Rattle.geos_calls.specs.Calls.{locks_full}
use Rattle.geos_calls.specs.ItemCalls.{no_group}
use Rattle.geos_calls.specs.VmCalls.{does}
use Rattle.geos_kernel.specs.Kernel.{Calls, LeavesVm}
use Rattle.geos_kernel.specs.View.{IsFileOf, KernelState, memory_of}
use Rattle.takhvoi.specs.Answers.{IsStatus, ReadsDevice}
use Rattle.takhvoi.specs.declared.system.System.{System}

-- the numbers below n that pass the test, in order
unfoldable pub those_below : (ℕ → Bool) → ℕ → List ℕ
those_below test zero = []
those_below test (suc n) = if test n then those_below test n ++ n ∷ [] else those_below test n

-- a handle names a block of memory
abbrev pub is_block : Memory → ℕ → Bool
is_block memory h = not (is_none (block_of memory (mem h)))

-- a handle names a block or a group of the VM file
abbrev pub is_listed : Memory → ℕ → Bool
is_listed memory h = not (is_none (listed_at memory h))

-- a handle names a chunk of a block
abbrev pub is_chunk : Name → Memory → ℕ → Bool
is_chunk name memory c = not (is_none (chunk_of (chunks_at memory name) c))

-- the count is the number of these handles, and as many as there is room for are at the beginning of a buffer, whose rest is as before
pub record Fills (found : List ℕ) (count : ℕ) (old new : List ℕ) : Type 0 where
  pub count_is : count ≡ length found
  pub written : new ≡ with_part old 0 found

-- the handles of blocks are below this number
abbrev pub past_handles : ℕ
past_handles = 1025

-- and those of chunks, which are even, below this one
abbrev pub past_chunks : ℕ
past_chunks = 65535

-- all numbers below `past` that pass the test in the kernel's memory are listed, for any VM file of the model
abbrev pub Lists : (Memory → ℕ → Bool) → ℕ → KernelState → ℕ → List ℕ → List ℕ → Type 0
Lists test past s count old new = (f : VmFile) → IsFileOf (Unit {0}) s f → Fills (those_below (test (memory_of s f)) past) count old new

-- a call that changes nothing
abbrev pub looks : Call (Unit {0})
looks choice memory = tells memory tt

-- the call is done, the model, the VM file and the device are as before, and the fact holds
abbrev pub IsFound : Type 0 → ℕ → System → System → Type 0
IsFound fact status old new = (status ≡ 0) × Calls (Unit {0}) looks (Ok tt) old.kernel.core new.kernel.core
    × LeavesVm old.kernel new.kernel × fact

-- a call that brings a group into memory, as `ilock` does, and changes nothing
abbrev pub brings : ℕ → Call (Unit {0})
brings group choice memory = does memory (no_group memory group ∷ locks_full memory (vm group) ∷ bringing choice memory group) memory

-- the reply is that of `brings`, and if it is no refusal, the fact holds
abbrev pub IsBrought : ℕ → Type 0 → ℕ → System → System → Type 0
IsBrought group fact status old new = ReadsDevice old new
    × ((reply : Result (Unit {0}) Refusal) × Calls (Unit {0}) (brings group) reply old.kernel.core new.kernel.core × IsStatus reply status
    × OnOk reply fact)
