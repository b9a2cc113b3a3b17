-- How blocks of the file make room for another block.
use Rattle.std.specs.Prelude.{◌≡◌, ◌≢◌, ℕ, ◌⊎◌, ◌&&◌, ◌==◌, not, Bool, true, false, List, [], ◌∷◌, suc, Option, Some, None}
use Rattle.geos_terms.specs.declared.name.Owner.{Owner}
use Rattle.geos_terms.specs.declared.name.Owner.TheVariants.{Mem, Vm}
use Rattle.geos_terms.specs.declared.name.Name.{Name}
use Rattle.block_handles.specs.Calls.{Makes, Grows}
use Rattle.block_handles.specs.Change.{without}
use Rattle.block_handles.specs.Layout.{IsLaidOut}
use Rattle.block_handles.specs.Names.{IsHandle, slot_of}
use Rattle.block_handles.specs.Store.{Block, Store, IsThere, block_at, place_of}
use Rattle.block_handles.specs.Stretch.{HasNoRoom}
use Rattle.vm_blocks.specs.declared.entries.Held.{Held}
use Rattle.vm_blocks.specs.View.{VmState, held_at, vm_slot}

-- a listed block is idle: it is in memory, neither marked nor locked
abbrev pub is_idle_in : Option Held → Option Block → Bool
is_idle_in None b = false
is_idle_in (Some e) None = false
is_idle_in (Some e) (Some b) = not e.marked && (b.locks == 0)

-- the block of a handle may be
abbrev pub is_idle : {D : Type 0} → VmState D → Store → ℕ → Bool
is_idle v s h = is_idle_in (held_at v h) (block_at s (vm_slot h))

-- no block is idle, except possibly that of a handle; 0 stands for no handle
abbrev pub NoneIdle : {D : Type 0} → VmState D → Store → ℕ → Type 0
NoneIdle v s but = (h : ℕ) → IsHandle h → h ≢ but → is_idle v s h ≡ false

-- a block of the file, other than this one, was evicted from a slot
pub record Goes {D : Type 0} (v : VmState D) (old new : Store) (but slot : ℕ) : Type 0 where
  pub h : ℕ
  pub handle : IsHandle h
  pub slot_is : slot ≡ vm_slot h
  pub other : h ≢ but
  pub idle : is_idle v old h ≡ true
  pub gone : block_at new slot ≡ None

-- a slot is unchanged, and so is its place; or its block was evicted
abbrev pub StaysOrGoes : {D : Type 0} → VmState D → Store → Store → ℕ → ℕ → Type 0
StaysOrGoes v old new but slot = ((block_at new slot ≡ block_at old slot) × (place_of new slot ≡ place_of old slot)) ⊎ Goes v old new but slot

-- some blocks, not this one, were evicted
pub record Thins {D : Type 0} (v : VmState D) (old new : Store) (but : ℕ) : Type 0 where
  pub each : (slot : ℕ) → StaysOrGoes v old new but slot
  pub laid : IsLaidOut new
  pub len : new.len ≡ old.len

-- exactly one block was evicted: an idle one, and not the block of this handle
pub record DiscardsOne {D : Type 0} (v : VmState D) (old new : Store) (but : ℕ) : Type 0 where
  pub h : ℕ
  pub handle : IsHandle h
  pub other : h ≢ but
  pub idle : is_idle v old h ≡ true
  pub gone : new ≡ without old (vm_slot h)

-- blocks were evicted one by one for a request while it had no
-- room: none before the first eviction, none before the last
pub record WentForRoom {D : Type 0} (v : VmState D) (old new : Store) (but slot size : ℕ) : Type 0 where
  pub first : HasNoRoom old slot size
  pub last : Store
  pub before : Thins v old last but
  pub wanted : HasNoRoom last slot size
  pub one : DiscardsOne v last new but

-- no block was evicted if there was room for the request
abbrev pub DiscardsForRoom : {D : Type 0} → VmState D → Store → Store → ℕ → ℕ → ℕ → Type 0
DiscardsForRoom v old new but slot size = (new ≡ old) ⊎ WentForRoom v old new but slot size

-- each block of the file that was in memory is still there, except possibly that of a handle; 0 stands for no handle
abbrev pub Remain : Store → Store → ℕ → Type 0
Remain old new but = (h : ℕ) → IsHandle h → h ≢ but → IsThere old (vm_slot h) → IsThere new (vm_slot h)

-- the same, or there was no room for a block of this size in the slot of that handle
abbrev pub RemainOrNoRoom : Store → Store → ℕ → ℕ → Type 0
RemainOrNoRoom old new h size = Remain old new h ⊎ HasNoRoom old (vm_slot h) size

-- the handle of a block of the file by its owner, and 0 for a block of global memory
abbrev pub own_handle_of : Owner → ℕ → ℕ
own_handle_of Mem h = 0
own_handle_of Vm h = h

-- the handle that a named block has in the file, or 0
abbrev pub own_handle : Name → ℕ
own_handle name = own_handle_of name.owner name.h

-- room was made for a new block: while there was none, idle blocks were evicted; then the block was made
pub record DiscardsAndMakes {D : Type 0} (v : VmState D) (old new : Store) (name : Name) (size : ℕ) : Type 0 where
  pub mid : Store
  pub thins : Thins v old mid (own_handle name)
  pub wanted : DiscardsForRoom v old mid (own_handle name) (slot_of name) size
  pub absent : block_at mid (slot_of name) ≡ None
  pub makes : Makes mid new (slot_of name) size

-- room was made for a block in memory: while there was none, other idle blocks were evicted; then the block grew
pub record DiscardsAndGrows {D : Type 0} (v : VmState D) (old new : Store) (name : Name) (size : ℕ) : Type 0 where
  pub mid : Store
  pub thins : Thins v old mid (own_handle name)
  pub wanted : DiscardsForRoom v old mid (own_handle name) (slot_of name) size
  pub own : block_at mid (slot_of name) ≡ block_at old (slot_of name)
  pub grows : Grows mid new (slot_of name) size

-- there is no room, although all other idle blocks were evicted
pub record LacksRoom {D : Type 0} (v : VmState D) (old new : Store) (name : Name) (size : ℕ) : Type 0 where
  pub thins : Thins v old new (own_handle name)
  pub none : NoneIdle v new (own_handle name)
  pub no_room : HasNoRoom new (slot_of name) size

-- how many slots of a list are in use
abbrev pub count_there : List (Option Block) → ℕ
count_there [] = 0
count_there (None ∷ bs) = count_there bs
count_there (Some b ∷ bs) = suc (count_there bs)

-- how many blocks there are
abbrev pub there_count : Store → ℕ
there_count s = count_there s.blocks
