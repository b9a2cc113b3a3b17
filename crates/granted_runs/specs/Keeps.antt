-- What a run leaves unchanged, by the effects that its routine lacks.
use Rattle.std.specs.Prelude.{◌≡◌, ◌<◌, ◌≤◌, ◌⊎◌, ℕ, false, List, [], Option, Some, None, option_map, slice_index_or}
use Rattle.geos_terms.specs.declared.name.Name.{Name}
use Rattle.geos_terms.specs.Names.{mem, vm}
use Rattle.block_handles.specs.Store.{handles_of, most_of}
use Rattle.block_handles.specs.Stretch.{all_sizes}
use Rattle.vm_blocks.specs.Found.{OpensAsKept}
use Rattle.geos_calls.specs.Directories.{KeptBlock, kept_block}
use Rattle.geos_calls.specs.Memory.{Memory, at_handle, listed_at}
use Rattle.geos_calls.specs.VmFile.{Kept, VmFile}
use Rattle.geos_calls.specs.Effects.{Choice}
use Rattle.geos_image.specs.Parts.{Parts}
use Rattle.geos_verify.specs.Entry.{entry_slots}
use Rattle.geos_kernel.specs.View.{KernelState, memory_of}
use Rattle.geos_semantics.specs.Lists.{Each}
use Rattle.geos_semantics.specs.State.{State}
use Rattle.geos_semantics.specs.Lending.{given_slots, base_of}
use Rattle.geos_semantics.specs.Meets.{Base}
use Rattle.geos_machine.specs.declared.outcome.Outcome.{Outcome}
use Rattle.geos_machine.specs.Runs.{Within, RanWith, begin, kept_along}
use Rattle.geos_grants.specs.declared.effect.Effect.{Effect}
use Rattle.geos_grants.specs.declared.effect.Effect.TheVariants as effect
use Rattle.geos_grants.specs.declared.effects.Effects.{Effects}
use Rattle.geos_grants.specs.Grants.{DoesOnly}
use Rattle.geos_grants.specs.Sets.{has}

-- what a commit would write of the VM block with this handle: its user ID, its chunks and its size; or None if there
-- is no such block
abbrev pub stored_at : Memory → ℕ → Option KeptBlock
stored_at memory h = option_map kept_block (listed_at memory h)

-- the block of the VM file with this handle may not be changed: the file may not, nor the block of any slot to which this one is lent
abbrev pub IsSpared : (Effect → Type 0) → List (Option Name) → ℕ → Type 0
IsSpared lacks lends h = lacks effect.ChangesFile × ((a : ℕ) → slice_index_or lends a None ≡ Some (vm h) → lacks (effect.ChangesLent a))

-- the contents of the block with this handle depend only on memory: the device is honest, or the caller lends the
-- block, so that it is locked
abbrev pub IsSteady : Type 0 → List (Option Name) → ℕ → Type 0
IsSteady honest lends h = honest ⊎ ((a : ℕ) × (slice_index_or lends a None ≡ Some (vm h)))

-- what a run leaves unchanged by the effects that it lacks, from one state to another. Without output, there is no
-- more output. Without commits, the device has the same committed pair and the same saved directory. Without the map,
-- the directory names the same map block and item. Without memory, each block of global memory is the same.
-- Without locks by handle, each block that others have locked is the same. Each block of the VM file that may not be
-- changed is the same, if the caller lends it or the device is honest. The limits on bytes and handles are the same,
-- and no new block of global memory has a handle above the limit
pub record Keeps (lacks : Effect → Type 0) (honest : Type 0) (base : Base) (old new : State) : Type 0 where
  pub output : lacks effect.Output → new.output ≡ old.output
  pub kept : lacks effect.Commits → new.memory.file.kept ≡ old.memory.file.kept
  pub saved : lacks effect.Commits → new.memory.file.saved ≡ old.memory.file.saved
  pub map_block : lacks effect.Map → new.memory.file.cur.map_block ≡ old.memory.file.cur.map_block
  pub map_group : lacks effect.Map → new.memory.file.cur.map_group ≡ old.memory.file.cur.map_group
  pub map_item : lacks effect.Map → new.memory.file.cur.map_item ≡ old.memory.file.cur.map_item
  pub blocks : lacks effect.Memory → (h : ℕ) → at_handle None new.memory.blocks h ≡ at_handle None old.memory.blocks h
  pub locked : lacks effect.LocksByHandle → (h : ℕ) → 0 < base.locks (mem h)
      → at_handle None new.memory.blocks h ≡ at_handle None old.memory.blocks h
  pub stored : (h : ℕ) → IsSteady honest base.lends h → IsSpared lacks base.lends h → stored_at new.memory h ≡ stored_at old.memory h
  pub limit : new.memory.region ≡ old.memory.region
  pub handles : new.memory.handles ≡ old.memory.handles
  pub above : (h : ℕ) → old.memory.handles < h → at_handle None old.memory.blocks h ≡ None → at_handle None new.memory.blocks h ≡ None

-- an effect is not granted
abbrev pub IsDenied : Effects → Effect → Type 0
IsDenied grants effect = has grants effect ≡ false

-- what belongs to others in a run of routine r that begins in this memory
abbrev pub others_of : Parts → ℕ → List ℕ → Memory → Base
others_of image r handles memory = base_of memory (given_slots (entry_slots image r) handles)

-- no choice changes the bytes of blocks on the device
abbrev pub GivesNothing : List Choice → Type 0
GivesNothing choices = Each (λ (choice : Choice). choice.given ≡ []) choices

-- a run of routine r from this memory to this last state leaves unchanged what is not granted; and without commits,
-- the committed pair is the same in each state of the run
pub record Spares (image : Parts) (r : ℕ) (words handles : List ℕ) (memory : Memory) (choices : List Choice) (last : State) (grants : Effects)
    : Type 0 where
  pub keeps : Keeps (IsDenied grants) (GivesNothing choices) (others_of image r handles memory) (begin image r words handles memory) last
  pub kept : IsDenied grants effect.Commits
      → Each (λ (kept : Kept). kept ≡ memory.file.kept) (kept_along image choices (begin image r words handles memory))

-- a run does so for every grant that includes the effects of the routine
abbrev pub SparesDenied : Parts → ℕ → List ℕ → List ℕ → Memory → List Choice → State → Type 0
SparesDenied image r words handles memory choices last = (grants : Effects) → DoesOnly image grants r
    → Spares image r words handles memory choices last grants

-- a run of the model took one kernel to another, and what is not granted is unchanged. Without commits, a stop at any
-- moment of the run leaves the committed pair of before. The limit on the bytes of all blocks is the same, and they
-- are within it. The limit on handles is the same, and no new block of global memory has a handle above it
pub record RanWithin (honest : Type 0) (within : Within) (image : Parts) (r : ℕ) (words handles : List ℕ)
    (old new : KernelState) (outcome : Outcome) (f : VmFile) : Type 0 where
  pub ran : RanWith honest within image r words handles old new outcome f
  pub spares : SparesDenied image r words handles (memory_of old f) ran.ran.choices ran.ran.last
  pub stops : (grants : Effects) → DoesOnly image grants r → IsDenied grants effect.Commits → honest → within (OpensAsKept f.kept)
  pub limit : most_of new.blocks ≡ most_of old.blocks
  pub taken : all_sizes new.blocks ≤ most_of old.blocks
  pub highest : handles_of new.blocks ≡ handles_of old.blocks
  pub above : (h : ℕ) → handles_of old.blocks < h → at_handle None (memory_of old f).blocks h ≡ None
      → at_handle None (memory_of new ran.file).blocks h ≡ None
