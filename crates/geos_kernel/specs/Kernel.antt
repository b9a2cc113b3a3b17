-- The invariant of a kernel, and the contracts of its calls.
use Rattle.std.specs.Prelude.{List, [], ◌∷◌, length, set, true, Some, ◌≡◌, ◌⊎◌, ℕ, ◌-◌, ◌^◌, ◌<◌, ◌≤◌, Option, None, IsSomeAnd, OnErr, Result, Ok, Err}
use Rattle.block_handles.specs.Names.{slot_of}
use Rattle.block_handles.specs.Store.{Store, IsThere, block_at, bytes_of, locks_of, region_len}
use Rattle.block_handles.specs.Change.{LockedStay}
use Rattle.block_handles.specs.Layout.{IsLaidOut}
use Rattle.block_handles.specs.Used.{IsLowest}
use Rattle.block_handles.specs.Stretch.{HasNoRoom}
use Rattle.geos_terms.specs.declared.name.Owner.TheVariants.{Mem}
use Rattle.geos_terms.specs.declared.name.Name.{Name}
use Rattle.geos_terms.specs.Names.{mem, vm}
use Rattle.geos_terms.specs.Block as block
use Rattle.geos_terms.specs.Chunks.{need}
use Rattle.geos_terms.specs.Edits.{Edit}
use Rattle.geos_terms.specs.Heap.{IsHeap}
use Rattle.geos_terms.specs.declared.refusal.Refusal.{Refusal}
use Rattle.geos_terms.specs.declared.refusal.Refusal.TheVariants.{NoRoom}
use Rattle.vm_file.specs.Device.{Medium}
use Rattle.geos_calls.specs.VmFile.{VmFile}
use Rattle.geos_calls.specs.Calls.{store}
use Rattle.geos_calls.specs.Effects.{Choice, Call, Reference, outcome, effect_of}
use Rattle.vm_blocks.specs.FileOf as vm
use Rattle.vm_blocks.specs.Room.{NoneIdle, Thins, own_handle}
pub use Rattle.vm_blocks.specs.Room.{Remain}
use Rattle.vm_blocks.specs.Tied.{IsTied}
use Rattle.vm_blocks.specs.Blocks.{IsLowestUnlisted}
use Rattle.vm_blocks.specs.View.{VmState, held_at, vm_slot}
use Rattle.db_items.specs.Items.{room_wanted}
use Rattle.geos_kernel.specs.declared.span.Span.{Span}
use Rattle.geos_kernel.specs.View.{KernelState, KernelOn, failed_in, memory_of, IsFileOf}
use Rattle.geos_kernel.specs.Spans.{Stands, SpansStay}

-- blocks lie in the region, and no two overlap. Each named block contains a heap, which begins with the block's
-- handle, and its lock count is at most 65,535. The blocks of the VM file are tied to the file, and the model knows
-- some VM file. The region has at most 16,777,216 bytes
pub record IsKernel {D : Type 0} (medium : Medium D) (v : VmState D) (s : Store) : Type 0 where
  pub laid : IsLaidOut s
  pub heaps : (name : Name) → IsThere s (slot_of name) → IsHeap (bytes_of s (slot_of name))
  pub handles : (name : Name) → IsThere s (slot_of name) → block.handle_word (bytes_of s (slot_of name)) ≡ name.h
  pub few : (name : Name) → locks_of s (slot_of name) ≤ 65535
  pub tied : IsTied medium v s
  pub known : (f : VmFile) × vm.IsFileOf medium.image medium.honest v s f
  pub small : region_len s ≤ 16777216

-- a count of failures rose. At the greatest number the count always counts as risen, so that it stays risen over
-- later calls
abbrev pub HasRisen : ℕ → ℕ → Type 0
HasRisen before now = (before < now) ⊎ (2 ^ 64 - 1 ≤ now)

-- a choice that is possible in calls from one kernel to another: an honest device returned no wrong bytes, and
-- refused only if its count of failures rose
pub record IsChosen (good : Type 0) (old new : KernelState) (choice : Choice) : Type 0 where
  pub given : good → choice.given ≡ []
  pub device : good → choice.device ≡ true → HasRisen (failed_in old) (failed_in new)

-- the count of failures of an honest device stayed, or rose
abbrev pub NeverFell : Type 0 → KernelState → KernelState → Type 0
NeverFell good old new = good → (failed_in new ≡ failed_in old) ⊎ HasRisen (failed_in old) (failed_in new)

-- a call returned what its row says for memory with this VM file, under some choice, and the model knows some VM file
-- afterwards
pub record AnswersWith {A : Type 0} (good : Type 0) (call : Call A) (result : Result A Refusal) (old new : KernelState) (f : VmFile) : Type 0 where
  pub choice : Choice
  pub chosen : IsChosen good old new choice
  pub lasts : NeverFell good old new
  pub file : VmFile
  pub tied : IsFileOf good new file
  pub comes : outcome (effect_of call choice (memory_of old f)) ≡ (result, memory_of new file)

-- a call returns what its row says, whatever VM file the model knows; and spans stay valid unless the call makes them
-- stale
pub record Calls {A : Type 0} (good : Type 0) (call : Call A) (result : Result A Refusal) (old new : KernelState) : Type 0 where
  pub answers : (f : VmFile) → IsFileOf good old f → AnswersWith good call result old new f
  pub spans : (f : VmFile) → IsFileOf good old f → (choice : Choice) → SpansStay old new f (effect_of call choice (memory_of old f)).stale

-- a call that does not use the device, and changes neither the directory nor the file
pub record LeavesVm {D : Type 0} (old new : KernelOn D) : Type 0 where
  pub device : new.device ≡ old.device
  pub vm : new.core.vm ≡ old.core.vm

-- a slot has a new heap without chunks, under its handle, locked once. Every other block is as it was, and a locked
-- one did not move
pub record MakesHeap (old new : Store) (slot h : ℕ) : Type 0 where
  pub bytes : List ℕ
  pub blocks : new.blocks ≡ set old.blocks slot (Some (record { locks = 1; bytes = bytes }))
  pub stay : LockedStay old new slot
  pub len : new.len ≡ old.len
  pub laid : IsLaidOut new
  pub heap : IsHeap bytes
  pub chunks : block.chunks bytes ≡ None ∷ None ∷ []
  pub handle : block.handle_word bytes ≡ h
  pub long : length bytes ≡ 64

-- blocks that can be read again were evicted, and then a new heap was made under the name
pub record MakesRoomFor {D : Type 0} (v : VmState D) (old new : Store) (name : Name) : Type 0 where
  pub mid : Store
  pub thins : Thins v old mid (own_handle name)
  pub made : MakesHeap mid new (slot_of name) name.h

-- no gap of the region has room for a named block of this size, and no other block could still be evicted
pub record HasNoRoomIn (s : KernelState) (name : Name) (size : ℕ) : Type 0 where
  pub none : NoneIdle s.vm s.blocks (own_handle name)
  pub no_room : HasNoRoom s.blocks (slot_of name) size

-- there is no room for a named block of the size that these chunks need
abbrev pub HasNoRoomFor : KernelState → Name → List (Option (List ℕ)) → Type 0
HasNoRoomFor s name chunks = HasNoRoomIn s name (need chunks)

-- there is no room for a new block under the lowest free handle
abbrev pub NewHasNoRoom : KernelState → KernelState → Type 0
NewHasNoRoom old new = (h : ℕ) × IsLowest old.blocks Mem h × HasNoRoomIn new (mem h) 64

-- there is no room for a new block of the VM file under the lowest handle that was not listed
abbrev pub NewListedHasNoRoom : KernelState → KernelState → Type 0
NewListedHasNoRoom old new = (h : ℕ) × IsLowestUnlisted old.vm h × HasNoRoomIn new (vm h) 64

-- there is no room for a listed block, which is not in memory, in the size that the directory lists
abbrev pub ListedHasNoRoom : KernelState → ℕ → Type 0
ListedHasNoRoom s h = IsSomeAnd (held_at s.vm h) (λ held. HasNoRoomIn s (vm h) held.len)

-- there is no room for a group: for one that is not in memory, in the size that the directory lists; for one that is,
-- in the size that its items need after the call
pub record ItemHasNoRoom {A : Type 0} (s : KernelState) (g : ℕ) (edit : List (Option (List ℕ)) → Edit A) : Type 0 where
  pub none : NoneIdle s.vm s.blocks g
  pub no_room : HasNoRoom s.blocks (vm_slot g) (room_wanted edit (held_at s.vm g) (block_at s.blocks (vm_slot g)))

-- a call that is refused for another reason than lack of room leaves all blocks as they were
abbrev pub StaysIfRefused : {A : Type 0} → Result A Refusal → Store → Store → Type 0
StaysIfRefused result old new = (result ≡ Err NoRoom → ⊥) → OnErr result (new ≡ old)

-- bytes were written at an offset of every reference that the span is valid for, as the row says
abbrev pub Stores : Type 0 → Span → ℕ → List ℕ → KernelState → KernelState → Type 0
Stores good span i bytes old new = (ref : Reference) → Stands old span ref → Calls good (store ref i bytes) (Ok tt) old new

-- a span is valid for the reference that a row returns, or both have the same refusal
abbrev pub StandsFor : KernelState → Result Span Refusal → Result Reference Refusal → Type 0
StandsFor s (Ok span) (Ok ref) = Stands s span ref
StandsFor s (Err a) (Err b) = a ≡ b
StandsFor s _ _ = ⊥

-- a call returns a span where the bytes of its row's reference are after the call, or the refusal of its row
abbrev pub LeadsToSpan : Type 0 → Call Reference → Result Span Refusal → KernelState → KernelState → Type 0
LeadsToSpan good call result old new = (given : Result Reference Refusal) × Calls good call given old new × StandsFor new result given

-- the same of a call that changes nothing
abbrev pub GivesSpan : Type 0 → Call Reference → Result Span Refusal → KernelState → Type 0
GivesSpan good call result s = LeadsToSpan good call result s s
