-- The heap of one block: changes of its chunks as changes of the store, and lack of room.
use Rattle.std.specs.Prelude.{◌≡◌, ℕ, ◌%◌, ◌<◌, ◌≤◌, max, List, length, set, Option, Some, Result, Err, OnOk, IfErr}
use Rattle.geos_terms.specs.declared.name.Name.{Name}
use Rattle.block_handles.specs.Names.{slot_of}
use Rattle.block_handles.specs.Store as store
use Rattle.block_handles.specs.Store.{Store, IsThere, locks_of}
use Rattle.block_handles.specs.Change.{LockedStay}
use Rattle.block_handles.specs.Layout.{IsLaidOut}
use Rattle.block_handles.specs.Stretch.{HasNoRoom}
use Rattle.lmem_heap.specs.declared.error.RoomError.{RoomError}
use Rattle.lmem_heap.specs.declared.error.RoomError.TheVariants as room
use Rattle.geos_terms.specs.Block as block
use Rattle.geos_terms.specs.Chunks.{need}
use Rattle.geos_terms.specs.Heap.{IsHeap, most_block_bytes}
use Rattle.geos_terms.specs.declared.refusal.Refusal.{Refusal}
use Rattle.geos_terms.specs.declared.refusal.Refusal.TheVariants.{TooBig, NoRoom}
use Rattle.vm_blocks.specs.Room.{DiscardsForRoom, NoneIdle, Thins, own_handle}
use Rattle.vm_blocks.specs.View.{VmState}

-- the chunks that the bytes of a named block encode
abbrev pub chunks_at : Store → Name → List (Option (List ℕ))
chunks_at s name = block.chunks (store.bytes_of s (slot_of name))

-- the size of a named block
abbrev pub size_at : Store → Name → ℕ
size_at s name = store.size_of s (slot_of name)

-- a named block is in memory, and is a heap
pub record HoldsHeap (s : Store) (name : Name) : Type 0 where
  pub there : IsThere s (slot_of name)
  pub heap : IsHeap (store.bytes_of s (slot_of name))

-- the block in a slot has other bytes: a heap of this size with these chunks and the
-- same handle. Every other block is unchanged, and so is its place if it is locked.
pub record Rechunks (old new : Store) (slot : ℕ) (chunks : List (Option (List ℕ))) (size : ℕ) : Type 0 where
  pub bytes : List ℕ
  pub blocks : new.blocks ≡ set old.blocks slot (Some (record { locks = locks_of old slot; bytes = bytes }))
  pub stay : LockedStay old new slot
  pub len : new.len ≡ old.len
  pub laid : IsLaidOut old → IsLaidOut new
  pub heap : IsHeap bytes
  pub handle : block.handle_word bytes ≡ block.handle_word (store.bytes_of old slot)
  pub spells : block.chunks bytes ≡ chunks
  pub long : length bytes ≡ size

-- a named block has these chunks, and its size
abbrev pub Edits : Store → Store → Name → List (Option (List ℕ)) → Type 0
Edits old new name chunks = Rechunks old new (slot_of name) chunks (size_at old name)

-- Calls that enlarge the block if its heap needs more room

-- the size that a heap requests is legal and larger than the block; or the heap needs more than a block can have
abbrev pub AsksFor : RoomError → ℕ → Type 0
AsksFor room.TooBig size = Unit {0}
AsksFor (room.NeedMore k) size = (size < k) × (k ≤ most_block_bytes) × (k % 16 ≡ 0)

-- no stretch of the region has room for a block of this size
abbrev pub FindsNoRoom : Refusal → Store → Store → ℕ → ℕ → Type 0
FindsNoRoom refusal old new slot size = (refusal ≡ NoRoom) × HasNoRoom old slot size × (new ≡ old)

-- while there was no room, blocks that can be read again were evicted. Then a named block gets
-- this size; or no stretch of the region has room for it, although no block is left to evict.
pub record Enlarges {D : Type 0} (v : VmState D) (old new : Store) (name : Name) (size : ℕ) (result : Result (Unit {0}) Refusal) : Type 0 where
  pub mid : Store
  pub thins : Thins v old mid (own_handle name)
  pub wanted : DiscardsForRoom v old mid (own_handle name) (slot_of name) size
  pub own : store.block_at mid (slot_of name) ≡ store.block_at old (slot_of name)
  pub ok : OnOk result (Rechunks mid new (slot_of name) (chunks_at mid name) size)
  pub no_room : IfErr result (λ refusal. FindsNoRoom refusal mid new (slot_of name) size × NoneIdle v new (own_handle name))

-- the call makes the room that a heap requests, or refuses it
abbrev pub GivesRoom : {D : Type 0} → VmState D → RoomError → Result (Unit {0}) Refusal → Store → Store → Name → Type 0
GivesRoom v room.TooBig result old new name = (result ≡ Err TooBig) × (new ≡ old)
GivesRoom v (room.NeedMore k) result old new name = Enlarges v old new name k result

-- why a block does not get these chunks: it would be too big, or it must grow and no stretch
-- of the region has room
abbrev pub CannotHold : Refusal → Store → Name → List (Option (List ℕ)) → Type 0
CannotHold TooBig s name chunks = most_block_bytes < need chunks
CannotHold NoRoom s name chunks = (size_at s name < need chunks) × (need chunks ≤ most_block_bytes) × HasNoRoom s (slot_of name) (need chunks)
CannotHold _ s name chunks = ⊥

-- a named block gets these chunks, and grows if they need more room than it has
abbrev pub Regrows : Store → Store → Name → List (Option (List ℕ)) → Type 0
Regrows old new name chunks = Rechunks old new (slot_of name) chunks (max (size_at old name) (need chunks))
