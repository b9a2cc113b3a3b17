-- Edits of the bytes that a block has lent, as heaps and arrays tell them.
use Rattle.std.proofs.Common.{◌≡◌, ℕ, ◌+◌, ◌<◌, ◌≤◌, true, false, List, [], ◌∷◌, length, Option, Some, None, refl, ap, ◌∙◌, arith, subst}
use Rattle.std.specs.Prelude.{Bool, Result, Ok, Err, IsErrAnd, IsSome, MatchResult, OnOk, OnErr, IfOk, IfErr, is_none, nat_lt}
use Rattle.geos_terms.specs.declared.name.Name.{Name}
use Rattle.geos_terms.specs.declared.refusal.Refusal.{Refusal}
use Rattle.geos_terms.specs.declared.refusal.Refusal.TheVariants as refusal
use Rattle.geos_terms.specs.Refusals.{first_refusal}
use Rattle.geos_terms.specs.Block as block
use Rattle.geos_terms.specs.Chunks.{need, chunk_of}
use Rattle.geos_terms.specs.Chunks.{bytes_of as bytes_in}
use Rattle.geos_terms.specs.Edits as edits
use Rattle.geos_terms.specs.Edits.{Edit}
use Rattle.geos_terms.specs.Heap.{IsHeap}
use Rattle.block_handles.specs.Change.{with_bytes}
use Rattle.block_handles.specs.Names.{slot_of}
use Rattle.block_handles.specs.Store.{Store, IsThere, bytes_of}
use Rattle.lmem_heap.specs.declared.error.RoomError.{RoomError}
use Rattle.lmem_heap.specs.declared.error.ReallocError.{ReallocError}
use Rattle.lmem_heap.specs.declared.error.ReallocError.TheVariants as realloc
use Rattle.lmem_heap.specs.declared.error.InsertError.{InsertError}
use Rattle.lmem_heap.specs.declared.error.InsertError.TheVariants as insert
use Rattle.lmem_heap.specs.declared.error.DeleteError.{DeleteError}
use Rattle.lmem_heap.specs.declared.error.DeleteError.TheVariants as delete
use Rattle.lmem_heap.specs.Refusals.{IsRoomError, IsReallocError, IsInsertError, IsDeleteError}
use Rattle.chunk_array.specs.declared.error.AppendError.{AppendError}
use Rattle.chunk_array.specs.declared.error.AppendError.TheVariants as append
use Rattle.chunk_array.specs.declared.error.GrowthError.{GrowthError}
use Rattle.chunk_array.specs.declared.error.GrowthError.TheVariants as growth
use Rattle.chunk_array.specs.GrowthErrors.{as_growth_error, IsGrowthError}
use Rattle.chunk_calls.specs.declared.obstacle.Obstacle.{Obstacle}
use Rattle.chunk_calls.specs.declared.obstacle.Obstacle.TheVariants.{Refused, Room}
use Rattle.chunk_calls.specs.Edits.{IsObstacle, Tries, IsOwn}
use Rattle.chunk_calls.specs.Refused.{map_err, why_not_appended, why_not_deleted, why_not_grown, why_not_inserted, why_not_resized}
use Rattle.chunk_calls.proofs.Lent.{lent-heap, lent-same}

below : (n m : ℕ) → n < m → nat_lt n m ≡ true
below n m lt = grind (arith, lt)

not_below : (n m : ℕ) → m ≤ n → nat_lt n m ≡ false
not_below n m le = grind (arith, le)

-- an edit whose one test is for the chunk passes where there is one, and is refused where
-- there is none
pub chunk-there : (cs : List (Option (List ℕ))) (c : ℕ) → IsSome (chunk_of cs c) → first_refusal (edits.no_chunk cs c ∷ []) ≡ None
chunk-there cs c some = known (chunk_of cs c) some
  where
    known : (o : Option (List ℕ)) → IsSome o → first_refusal ((is_none o, refusal.BadChunk) ∷ []) ≡ None
    known None s = absurd cc
    known (Some bytes) s = refl

pub chunk-absent : (cs : List (Option (List ℕ))) (c : ℕ) (others : List (Bool × Refusal)) → chunk_of cs c ≡ None
    → first_refusal (edits.no_chunk cs c ∷ others) ≡ Some refusal.BadChunk
chunk-absent cs c others none = rw none refl

-- one whose second test is for an offset passes where it lies in the chunk, and is refused
-- where it does not
pub offset-within : (cs : List (Option (List ℕ))) (c at : ℕ) → IsSome (chunk_of cs c) → at ≤ length (bytes_in cs c)
    → first_refusal (edits.no_chunk cs c ∷ ((nat_lt (edits.length_of cs c) at, refusal.Range) ∷ [])) ≡ None
offset-within cs c at some within = rw (not_below (edits.length_of cs c) at within) (known (chunk_of cs c) some)
  where
    known : (o : Option (List ℕ)) → IsSome o → first_refusal ((is_none o, refusal.BadChunk) ∷ ((false, refusal.Range) ∷ [])) ≡ None
    known None s = absurd cc
    known (Some bytes) s = refl

pub offset-past : (cs : List (Option (List ℕ))) (c at : ℕ) → IsSome (chunk_of cs c) → length (bytes_in cs c) < at
    → first_refusal (edits.no_chunk cs c ∷ ((nat_lt (edits.length_of cs c) at, refusal.Range) ∷ [])) ≡ Some refusal.Range
offset-past cs c at some past = rw (below (edits.length_of cs c) at past) (known (chunk_of cs c) some)
  where
    known : (o : Option (List ℕ)) → IsSome o → first_refusal ((is_none o, refusal.BadChunk) ∷ ((true, refusal.Range) ∷ [])) ≡ Some refusal.Range
    known None s = absurd cc
    known (Some bytes) s = refl

module _ {A : Type 0} (edit : List (Option (List ℕ)) → Edit A) (old : Store) (name : Name) (there : IsThere old (slot_of name))
    (ws was : List ℕ) (value : was ≡ bytes_of old (slot_of name)) where
  abbrev new : Store
  new = with_bytes old (slot_of name) ws

  -- what the edit makes of the chunks in the bytes
  abbrev made : Edit A
  made = edit (block.chunks was)

  module _ (long : length ws ≡ length was) (heap : IsHeap ws) (handle : block.handle_word ws ≡ block.handle_word was) where
    pub lent-tried : (answer : A) → answer ≡ made.answer → first_refusal made.refusals ≡ None → block.chunks ws ≡ made.chunks
        → Tries edit old new name (Ok answer)
    lent-tried answer told passed spells = (
      (
        told ∙ ap (λ bytes. (edit (block.chunks bytes)).answer) value,
        subst (λ bytes. first_refusal (edit (block.chunks bytes)).refusals ≡ None) value passed,
      ),
      lent-heap old (slot_of name) there ws was _ value long heap handle (spells ∙ ap (λ bytes. (edit (block.chunks bytes)).chunks) value),
    )

  pub lent-map_err : (o : Obstacle) → IsObstacle o made (length was) → ws ≡ was → Tries edit old new name (Err o)
  lent-map_err o h same = (
    subst (λ bytes. IsObstacle o (edit (block.chunks bytes)) (length bytes)) value h,
    lent-same old (slot_of name) there ws was value same,
  )

-- What heaps and arrays tell

-- what the method makes of a result
pub mapped : {A E F : Type 0} (why : E → F) (r : Result A E) (s : Result A F) → MatchResult r (λ x. s ≡ Ok x) (λ e. IsErrAnd s (λ o. o ≡ why e))
    → s ≡ map_err why r
mapped why (Ok x) s h = h
mapped why (Err e) (Ok x) h = absurd h
mapped why (Err e) (Err o) h = ap Err h

map_err-twice : {A E F G : Type 0} (why : E → F) (later : F → G) (r : Result A E) → map_err later (map_err why r) ≡ map_err (λ e. later (why e)) r
map_err-twice why later (Ok x) = refl
map_err-twice why later (Err e) = refl

-- and where it is called twice
pub mapped-twice : {A E F G : Type 0} (why : E → F) (later : F → G) (r : Result A E) (m : Result A F) (s : Result A G)
    → MatchResult r (λ x. m ≡ Ok x) (λ e. IsErrAnd m (λ o. o ≡ why e))
    → MatchResult m (λ x. s ≡ Ok x) (λ e. IsErrAnd s (λ o. o ≡ later e)) → s ≡ map_err (λ e. later (why e)) r
mapped-twice why later r m s h k = mapped later m s k ∙ ap (map_err later) (mapped why r m h) ∙ map_err-twice why later r

-- what holds of an answer that is Ok, or of an error, carried over
pub on_ok-map : {A E P Q : Type 0} (r : Result A E) → (P → Q) → OnOk r P → OnOk r Q
on_ok-map (Ok x) f p = f p
on_ok-map (Err e) f p = tt

pub if_err-map : {A E : Type 0} {P Q : E → Type 0} (r : Result A E) → ((e : E) → P e → Q e) → IfErr r P → IfErr r Q
if_err-map (Ok x) f p = tt
if_err-map (Err e) f p = f e p

module _ {E : Type 0} (edit : List (Option (List ℕ)) → Edit (Unit {0})) (old : Store) (name : Name)
    (there : IsThere old (slot_of name)) (ws was : List ℕ) (value : was ≡ bytes_of old (slot_of name))
    (long : length ws ≡ length was) (heap : IsHeap ws) (handle : block.handle_word ws ≡ block.handle_word was) (why : E → Obstacle) where
  abbrev e : Edit (Unit {0})
  e = edit (block.chunks was)

  -- a change of what they hold, which answers nothing
  pub lent : (r : Result (Unit {0}) E) → OnOk r ((first_refusal e.refusals ≡ None) × (block.chunks ws ≡ e.chunks))
      → IfErr r (λ error. IsObstacle (why error) e (length was)) → OnErr r (ws ≡ was)
      → Tries edit old (with_bytes old (slot_of name) ws) name (map_err why r)
  lent (Ok done) ok refused same = lent-tried edit old name there ws was value long heap handle tt refl ok.0 ok.1
  lent (Err error) ok refused same = lent-map_err edit old name there ws was value (why error) refused same

-- a call that makes a chunk is refused only for lack of room
pub lent-made : (edit : List (Option (List ℕ)) → Edit ℕ) (old : Store) (name : Name) → IsThere old (slot_of name)
    → (ws was : List ℕ) → was ≡ bytes_of old (slot_of name) → length ws ≡ length was → IsHeap ws
    → block.handle_word ws ≡ block.handle_word was → (edit (block.chunks was)).refusals ≡ [] → (r : Result ℕ RoomError)
    → IfOk r (λ c. (c ≡ (edit (block.chunks was)).answer) × (block.chunks ws ≡ (edit (block.chunks was)).chunks))
    → IfErr r (λ room. IsRoomError room (need (edit (block.chunks was)).chunks) (length was)) → OnErr r (ws ≡ was)
    → Tries edit old (with_bytes old (slot_of name) ws) name (map_err Room r)
lent-made edit old name there ws was value long heap handle none (Ok c) ok refused same =
    lent-tried edit old name there ws was value long heap handle c ok.0 (ap first_refusal none) ok.1
lent-made edit old name there ws was value long heap handle none (Err room) ok refused same =
    lent-map_err edit old name there ws was value (Room room) (ap first_refusal none, refused) same

-- Their errors are the obstacles of the edits

pub append-hinders : (e : Edit (Unit {0})) (size : ℕ) (error : AppendError) → IsGrowthError (as_growth_error error) e.refusals (need e.chunks) size
    → IsObstacle (why_not_appended error) e size
append-hinders e size append.BadChunk h = h
append-hinders e size append.BadArray h = h
append-hinders e size (append.Room r) h = h

pub growth-hinders : (e : Edit (Unit {0})) (size : ℕ) (error : GrowthError) → IsGrowthError error e.refusals (need e.chunks) size
    → IsObstacle (why_not_grown error) e size
growth-hinders e size growth.BadChunk h = h
growth-hinders e size growth.BadArray h = h
growth-hinders e size growth.BadElement h = h
growth-hinders e size (growth.Room r) h = h

module _ (cs : List (Option (List ℕ))) (size c : ℕ) where
  pub bad-hinders : {E : Type 0} (r : Result (Unit {0}) E) → OnErr r (chunk_of cs c ≡ None)
      → IfErr r (λ error. IsObstacle (Refused refusal.BadChunk) (edits.free c cs) size)
  bad-hinders (Ok done) bad = tt
  bad-hinders (Err error) bad = chunk-absent cs c [] bad

  pub realloc-hinders : (n : ℕ) (error : ReallocError) → IsReallocError error cs size c n
      → IsObstacle (why_not_resized error) (edits.realloc c n cs) size
  realloc-hinders n realloc.BadChunk h = chunk-absent cs c [] h
  realloc-hinders n (realloc.Room r) h = (chunk-there cs c h.0, h.1)

  pub insert-hinders : (at n : ℕ) (error : InsertError) → IsInsertError error cs size c at n
      → IsObstacle (why_not_inserted error) (edits.insert_bytes c at n cs) size
  insert-hinders at n insert.BadChunk h = chunk-absent cs c ((nat_lt (edits.length_of cs c) at, refusal.Range) ∷ []) h
  insert-hinders at n insert.Range h = offset-past cs c at h.0 h.1
  insert-hinders at n (insert.Room r) h = (offset-within cs c at h.0 h.1, h.2)

  pub delete-hinders : (at n : ℕ) (error : DeleteError) → IsDeleteError error cs c at n
      → IsObstacle (Refused (why_not_deleted error)) (edits.delete_bytes c at n cs) size
  delete-hinders at n delete.BadChunk h = chunk-absent cs c ((nat_lt (edits.length_of cs c) (at + n), refusal.Range) ∷ []) h
  delete-hinders at n delete.Range h = offset-past cs c (at + n) h.0 h.1

-- an error that is a refusal does not request room
pub own-refused : {E : Type 0} (why : E → Refusal) (r : Result (Unit {0}) E) → IsOwn false (map_err (λ error. Refused (why error)) r)
own-refused why (Ok done) = tt
own-refused why (Err error) = tt
