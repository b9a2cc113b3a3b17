-- What calls on items make of the blocks, the table and the device.
use Rattle.std.specs.Prelude.{◌≡◌, ℕ, ◌+◌, ◌≤◌, ◌<◌, List, length, Option, Some, None, IfOk, IfSome, OnErr, OnOk, Result, Ok, Err, option_map}
use Rattle.geos_terms.specs.Block.{chunks}
use Rattle.geos_terms.specs.Chunks.{need}
use Rattle.geos_terms.specs.Edits.{Edit, refer}
use Rattle.geos_terms.specs.Names.{vm}
use Rattle.geos_terms.specs.declared.refusal.Refusal.{Refusal}
use Rattle.geos_terms.specs.declared.refusal.Refusal.TheVariants.{Disk, NoRoom, Short}
use Rattle.geos_calls.specs.Calls.{in_block}
use Rattle.geos_calls.specs.Effects.{Call, Reference}
use Rattle.geos_calls.specs.ItemCalls.{ilock}
use Rattle.block_handles.specs.Change.{with_lock_more}
use Rattle.block_handles.specs.Store.{Block, Store, IsThere, block_at, bytes_of, locks_of}
use Rattle.block_handles.specs.Stretch.{HasNoRoom}
use Rattle.vm_file.specs.Device.{Medium}
use Rattle.vm_blocks.specs.declared.entries.Held.{Held}
use Rattle.vm_blocks.specs.Blocks.{marked}
use Rattle.vm_blocks.specs.Bring.{Keeps, LockedMore}
use Rattle.vm_blocks.specs.Bringing.{ReadsDevice}
use Rattle.vm_blocks.specs.DoesRow.{DoesRow}
use Rattle.vm_blocks.specs.Room.{LacksRoom, NoneIdle, RemainOrNoRoom}
use Rattle.vm_blocks.specs.Tied.{IsTied}
use Rattle.vm_blocks.specs.View.{VmState, held_at, vm_slot, with_device, with_held}
use Rattle.chunk_calls.specs.Edits.{Finds}
use Rattle.db_items.specs.Groups.{RefusesNoGroup}

-- the bytes that a call needs for a group: its listed length if it
-- is not in memory, otherwise what its chunks need after the call
abbrev pub room_wanted : {A : Type 0} → (List (Option (List ℕ)) → Edit A) → Option Held → Option Block → ℕ
room_wanted edit None b = 0
room_wanted edit (Some e) None = e.len
room_wanted edit (Some e) (Some b) = need (edit (chunks b.bytes)).chunks

-- no stretch of the region has room for these bytes after the call, although no other block is left to evict
pub record LacksItemRoom {D A : Type 0} (v : VmState D) (t : Store) (g : ℕ) (edit : List (Option (List ℕ)) → Edit A) : Type 0 where
  pub none : NoneIdle v t g
  pub no_room : HasNoRoom t (vm_slot g) (room_wanted edit (held_at v g) (block_at t (vm_slot g)))

-- the table after a call on a group; the call marks the group if it succeeds
abbrev pub listed_after : {D A : Type 0} → Result A Refusal → VmState D → ℕ → VmState D
listed_after (Ok answer) v g = with_held v g (option_map marked (held_at v g))
listed_after (Err why) v g = v

-- a call changes the chunks of a group: it loads the group into memory, changes it, and marks it. Every other
-- block is unchanged or evicted. A refusal leaves marks, lock counts and a group in memory unchanged. If the
-- group is in memory, the call does not use the device, and it evicts blocks only if there is no room for what the
-- chunks need. After a device error the group is not in memory.
pub record ChangesItem {D A : Type 0} (medium : Medium D)
    (call : Call A) (edit : List (Option (List ℕ)) → Edit A) (g : ℕ) (result : Result A Refusal) (v w : VmState D) (s t : Store) : Type 0 where
  pub tied : IsTied medium w t
  pub row : DoesRow medium call result v s w t
  pub listed : w ≡ with_device (listed_after result v g) w.file.device
  pub no_group : RefusesNoGroup g result v w s t
  pub keeps : Keeps v s t g
  pub wanted : IsThere s (vm_slot g) → RemainOrNoRoom s t g (need (edit (chunks (bytes_of s (vm_slot g)))).chunks)
  pub locks : locks_of t (vm_slot g) ≡ locks_of s (vm_slot g)
  pub refused : OnErr result (IsThere s (vm_slot g) → block_at t (vm_slot g) ≡ block_at s (vm_slot g))
  pub stays : (result ≡ Err NoRoom → ⊥) → OnErr result (IsThere s (vm_slot g) → t ≡ s)
  pub there : IsThere s (vm_slot g) → (w.file ≡ v.file) × (result ≡ Err Disk → ⊥)
  pub absent : result ≡ Err Disk → IsThere t (vm_slot g) → ⊥
  pub no_room : result ≡ Err NoRoom → LacksItemRoom v t g edit
  pub device : ReadsDevice medium (result ≡ Err Disk) v.file w.file

-- the reference to an item that was found: the whole of it
abbrev pub refers_to : ℕ → ℕ → Result (ℕ × ℕ) Refusal → Result Reference Refusal
refers_to g i (Ok place) = Ok (in_block (vm g) (record { chunk = i; start = 0; len = place.1 }))
refers_to g i (Err why) = Err why

-- a call locks a group once more, and finds an item of at least n bytes in it. A refusal leaves the lock count
-- unchanged. If the group is in memory, the call does not use the device, and nothing else changes. If it is not,
-- blocks are evicted only if there is no room for it. After a device error the group is not in memory.
pub record LocksItem {D : Type 0} (medium : Medium D)
    (g i n : ℕ) (result : Result (ℕ × ℕ) Refusal) (v w : VmState D) (s t : Store) : Type 0 where
  pub tied : IsTied medium w t
  pub row : DoesRow medium (ilock g i n) (refers_to g i result) v s w t
  pub same : w ≡ with_device v w.file.device
  pub no_group : RefusesNoGroup g result v w s t
  pub keeps : Keeps v s t g
  pub wanted : IfSome (held_at v g) (λ e. RemainOrNoRoom s t g e.len)
  pub ok : OnOk result (LockedMore s t g)
  pub locks : OnErr result (locks_of t (vm_slot g) ≡ locks_of s (vm_slot g))
  pub refused : OnErr result (IsThere s (vm_slot g) → t ≡ s)
  pub there : IsThere s (vm_slot g) → (w ≡ v) × OnOk result (t ≡ with_lock_more s (vm_slot g)) × (result ≡ Err Disk → ⊥)
  pub absent : result ≡ Err Disk → IsThere t (vm_slot g) → ⊥
  pub short : result ≡ Err Short → 0 < n
  pub finds : OnOk result (Finds (refer i n) (bytes_of t (vm_slot g)) result)
  pub within : IfOk result (λ place. (place.0 + place.1 ≤ length (bytes_of t (vm_slot g))) × (n ≤ place.1))
  pub no_room : result ≡ Err NoRoom → IfSome (held_at v g) (λ e. LacksRoom v s t (vm g) e.len)
  pub device : ReadsDevice medium (result ≡ Err Disk) v.file w.file
