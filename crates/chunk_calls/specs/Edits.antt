-- What a call makes of the chunks of one block, by its edit, and when it refuses.
use Rattle.std.specs.Prelude.{◌≡◌, ℕ, ◌+◌, ◌<◌, ◌≤◌, nat_lt, if◌then◌else◌, Bool, true, false, ◌⊎◌, List, length, Option, Some, None, IfSome, Result, Ok, Err}
use Rattle.geos_terms.specs.declared.name.Name.{Name}
use Rattle.geos_terms.specs.declared.refusal.Refusal.{Refusal}
use Rattle.geos_terms.specs.declared.refusal.Refusal.TheVariants.{NoRoom, Short}
use Rattle.geos_terms.specs.Refusals.{first_refusal}
use Rattle.geos_terms.specs.Block.{chunks, place_of}
use Rattle.geos_terms.specs.Chunks.{need, chunk_of}
use Rattle.geos_terms.specs.Edits.{Edit, Part}
use Rattle.block_handles.specs.Names.{slot_of}
use Rattle.block_handles.specs.Store.{Store, block_at}
use Rattle.lmem_heap.specs.Refusals.{IsRoomError}
use Rattle.chunk_calls.specs.declared.obstacle.Obstacle.{Obstacle}
use Rattle.chunk_calls.specs.declared.obstacle.Obstacle.TheVariants.{Refused, Room}
use Rattle.chunk_calls.specs.Heaps.{Edits, Regrows, CannotHold, chunks_at, size_at}
use Rattle.vm_blocks.specs.Room.{DiscardsForRoom, NoneIdle, Thins, own_handle}
use Rattle.vm_blocks.specs.View.{VmState}

-- no test of an edit refuses, and this is its result
abbrev pub Passes : {A : Type 0} → Edit A → A → Type 0
Passes edit answer = (answer ≡ edit.answer) × (first_refusal edit.refusals ≡ None)

-- returns the result of an edit of these chunks, or refuses it
abbrev pub Tells : {A : Type 0} → (List (Option (List ℕ)) → Edit A) → List (Option (List ℕ)) → Result A Refusal → Type 0
Tells edit chunks (Ok answer) = Passes (edit chunks) answer
Tells edit chunks (Err why) = first_refusal (edit chunks).refusals ≡ Some why

-- part of a chunk lies at this offset of a block's bytes
pub record LiesIn (bytes : List ℕ) (p : Part) (at : ℕ) : Type 0 where
  pub whole : List ℕ
  pub chunk : chunk_of (chunks bytes) p.chunk ≡ Some whole
  pub fits : p.start + p.len ≤ length whole
  pub place : 0 < p.len → IfSome (place_of bytes p.chunk) (λ q. at ≡ q.at + p.start)

-- returns the offset and the length of the bytes that an edit refers to, or refuses it
abbrev pub Finds : (List (Option (List ℕ)) → Edit Part) → List ℕ → Result (ℕ × ℕ) Refusal → Type 0
Finds edit bytes (Ok place) = let e = edit (chunks bytes) in (first_refusal e.refusals ≡ None) × (place.1 ≡ e.answer.len)
    × LiesIn bytes e.answer place.0
Finds edit bytes (Err why) = first_refusal (edit (chunks bytes)).refusals ≡ Some why

-- a place, which must have n bytes at least
abbrev pub enough : ℕ × ℕ → ℕ → Result (ℕ × ℕ) Refusal
enough place n = if nat_lt place.1 n then Err Short else Ok place

-- the obstacle is the first refusal of the edit; or no test refuses,
-- and its chunks need more room than a block of this size has
abbrev pub IsObstacle : {A : Type 0} → Obstacle → Edit A → ℕ → Type 0
IsObstacle (Refused why) edit size = first_refusal edit.refusals ≡ Some why
IsObstacle (Room room) edit size = (first_refusal edit.refusals ≡ None) × IsRoomError room (need edit.chunks) size

-- makes an edit of a block without growing it, or reports the obstacle
abbrev pub Tries : {A : Type 0} → (List (Option (List ℕ)) → Edit A) → Store → Store → Name → Result A Obstacle → Type 0
Tries edit old new name (Ok answer) = let e = edit (chunks_at old name) in Passes e answer × Edits old new name e.chunks
Tries edit old new name (Err obstacle) = IsObstacle obstacle (edit (chunks_at old name)) (size_at old name) × (new ≡ old)

-- makes an edit that needs no room, or refuses it
abbrev pub Changes : {A : Type 0} → (List (Option (List ℕ)) → Edit A) → Store → Store → Name → Result A Refusal → Type 0
Changes edit old new name (Ok answer) = let e = edit (chunks_at old name) in Passes e answer × Edits old new name e.chunks
Changes edit old new name (Err why) = (first_refusal (edit (chunks_at old name)).refusals ≡ Some why) × (new ≡ old)

-- makes an edit for which the block may grow, without evicting
-- other blocks; or refuses it, or reports that there is no room
abbrev pub Grows : {A : Type 0} → (List (Option (List ℕ)) → Edit A) → Store → Store → Name → Result A Refusal → Type 0
Grows edit old new name (Ok answer) = let e = edit (chunks_at old name) in Passes e answer × Regrows old new name e.chunks
Grows edit old new name (Err why) =
    let e = edit (chunks_at old name) in
    ((first_refusal e.refusals ≡ Some why) ⊎ ((first_refusal e.refusals ≡ None) × CannotHold why old name e.chunks)) × (new ≡ old)

-- makes an edit for which the block may grow; if there is no room for its chunks, idle blocks are
-- evicted. Or it refuses the edit, or reports that there is no room, and then no idle block is left.
pub record DiscardsAndEdits {D A : Type 0} (v : VmState D) (edit : List (Option (List ℕ)) → Edit A) (old new : Store)
    (name : Name) (result : Result A Refusal) : Type 0 where
  pub mid : Store
  pub thins : Thins v old mid (own_handle name)
  pub wanted : DiscardsForRoom v old mid (own_handle name) (slot_of name) (need (edit (chunks_at old name)).chunks)
  pub own : block_at mid (slot_of name) ≡ block_at old (slot_of name)
  pub grows : Grows edit mid new name result
  pub none : result ≡ Err NoRoom → NoneIdle v new (own_handle name)

-- makes an edit, for which the block may grow if the flag is set
abbrev pub Carries : {D A : Type 0} → Bool → VmState D → (List (Option (List ℕ)) → Edit A) → Store → Store → Name → Result A Refusal → Type 0
Carries true v edit = DiscardsAndEdits v edit
Carries false v edit = Changes edit

-- only a call whose block may grow reports that it needs room
abbrev pub IsOwn : Bool → Result (Unit {0}) Obstacle → Type 0
IsOwn false (Err (Room room)) = ⊥
IsOwn _ _ = Unit {0}
