-- What each step of an arena leaves: its fields are sound, and the store is as promised.
use Rattle.std.proofs.Common.{◌≡◌, ◌≢◌, Bool, true, false, ℕ, ◌+◌, ◌-◌, ◌/◌, ◌%◌, ◌≤◌, ◌<◌, List, ◌++◌, length, replicate, Option, Some, None, slice_index_or, slice_set, refl, ap, sym, subst, ◌∙◌, arith, length-append}
use Rattle.std.specs.Prelude.{IfSome, IsFalse, IsSomeAnd, IsTrue}
use Rattle.std.proofs.lemmas.List.{length-map, length-replicate, get_or-set_other, set-get_or}
use Rattle.lmem_raw.specs.Bytes.{part, with_part}
use Rattle.lmem_raw.proofs.Parts.{length-with_part, part-same}
use Rattle.block_handles.specs.declared.table.Entry.{Entry}
use Rattle.block_handles.specs.Store.{Block, Store, bytes_of, locks_in, locks_of, IsBlock, IsThere, size_of, place_of}
use Rattle.block_handles.specs.declared.arena.Limits.{Limits}
use Rattle.block_handles.specs.Change.{with_block, new_block, grown_block, with_locks, with_lock_less, with_lock_more, with_limits, block_with_locks}
use Rattle.block_handles.specs.Layout.{IsLaidOut, IsFreeBut}
use Rattle.geos_terms.specs.Heap.{IsBlockSize}
use Rattle.block_handles.specs.Rows.{HasSize, IsEntry, IsLocked}
use Rattle.block_handles.specs.View.{block_in, store_in, place_in, Lies, IsSound, IsIndexed}
use Rattle.block_handles.proofs.Views.{OffEntry, entry_there, off_slot, off_same, off_less, store-set, part-two, block_there, bytes_there, place_there, lies_there, size_there, lies_set, length-part}
use Rattle.block_handles.proofs.Layouts.{with_locks-shape, laid-limits, Differs, with_block-differs, laid-differs, laid-gone, SameShape, laid-same, indexed-same, size_of_none, there_of_locks, there_small}
use Rattle.block_handles.proofs.Indexing.{indexed-freed, indexed-put}

pub record Step (region : List ℕ) (table : List (Option Entry)) (index : List (Option ℕ)) (S : Store) : Type 0 where
  pub sound : IsSound region table index
  pub is : store_in region table ≡ S

-- the same, where blocks may have so many bytes
pub record Stands (limits : Limits) (region : List ℕ) (table : List (Option Entry)) (index : List (Option ℕ)) (S : Store) : Type 0 where
  pub sound : IsSound region table index
  pub laid : IsLaidOut (with_limits (store_in region table) limits)
  pub is : with_limits (store_in region table) limits ≡ S

pub limited : (limits : Limits) (region : List ℕ) (table : List (Option Entry)) (index : List (Option ℕ)) (S : Store) → Step region table index S
    → Stands limits region table index (with_limits S limits)
limited limits region table index S step = record {
  sound = step.sound;
  laid = laid-limits (store_in region table) limits step.sound.laid;
  is = ap (λ s. with_limits s limits) step.is;
}

module _ (region : List ℕ) (table : List (Option Entry)) (index : List (Option ℕ)) (sound : IsSound region table index) (i : ℕ) where
  abbrev S : Store
  S = store_in region table

  -- one entry is set, and every other block is as it was
  pub step : (region' : List ℕ) (o : Option Entry) (index' : List (Option ℕ)) (b : Option Block) → length region' ≡ length region
      → ((j : ℕ) → j ≢ i → block_in region' (slice_index_or table j None) ≡ block_in region (slice_index_or table j None))
      → block_in region' o ≡ b → Lies region' o → IsLaidOut (with_block S i b (place_in o)) → IsIndexed (with_block S i b (place_in o)) index'
      → Step region' (slice_set table i o) index' (with_block S i b (place_in o))
  step region' o index' b len same block lies laid indexed =
      let is : store_in region' (slice_set table i o) ≡ with_block S i b (place_in o) = store-set region region' table i o len same
      ∙ ap (λ x. with_block S i x (place_in o)) block in
      record {
        sound = record {
          lies = lies_set region region' table i o len lies sound.lies;
          laid = subst IsLaidOut (sym is) laid;
          indexed = subst (λ s. IsIndexed s index') (sym is) indexed;
          short = omega (arith, len, sound.short);
        };
        is = is;
      }

  -- the rest of the blocks, after a write where none of them lies
  off_all : (at n : ℕ) (ws : List ℕ) → length ws ≡ n → IsFreeBut S i at (at + n) → (j : ℕ) → j ≢ i
      → block_in (with_part region at ws) (slice_index_or table j None) ≡ block_in region (slice_index_or table j None)
  off_all at n ws e free j ne =
      let off : OffEntry (slice_index_or table j None) at (at + n) = off_slot region table at (at + n) j (sound.lies j) (free j ne) in
      off_same region at ws (slice_index_or table j None) (off_less (slice_index_or table j None) at (at + n) at
      (at + length ws) (omega arith) (omega (arith, e)) off)

  pub create-step : (at size : ℕ) → i < 2048 → (IsThere S i → ⊥) → IsBlockSize size → at + size ≤ length region
      → IsFreeBut S i at (at + size) → (region' : List ℕ) → region' ≡ with_part region at (replicate size 0)
      → Step region' (slice_set table i (Some (record { place = at; size = size; locks = 0 }))) (slice_set index (at / 64) (Some i))
      (with_block S i (new_block size) at)
  create-step at size small not legal room free region' e =
      let long : length (replicate {A = ℕ} size 0) ≡ size = length-replicate size 0 in
      let len : length region' ≡ length region = ap length e ∙ length-with_part region at (replicate size 0) in
      let d : Differs S (with_block S i (new_block size) at) i size at =
      subst (λ n. Differs S (with_block S i (new_block size) at) i n at) long (with_block-differs S i (new_block size) at sound.laid small) in
      let laid : IsLaidOut (with_block S i (new_block size) at) = laid-differs S (with_block S i (new_block size) at)
      i size at d sound.laid room free (λ _. legal) (λ z. absurd (omega (arith, z, legal.0))) in
      step region' (Some (record { place = at; size = size; locks = 0 })) (slice_set index (at / 64) (Some i)) (new_block size) len
      (λ j ne. ap (λ r. block_in r (slice_index_or table j None)) e ∙ off_all at size (replicate size 0) long free j ne)
      (ap (λ r. Some (record { locks = 0; bytes = part r at size })) e ∙ ap (λ bs. Some (record { locks = 0; bytes = bs }))
      (ap (λ n. part (with_part region at (replicate size 0)) at n) (sym long) ∙ part-same region at (replicate size 0) (omega (arith, long))))
      (omega (arith, len)) laid (indexed-put S (with_block S i (new_block size) at) index i size at d
      (size_of_none S i not) legal.0 laid sound.indexed)

  module _ (e : Entry) (is : slice_index_or table i None ≡ Some e) where
    size-is : size_of S i ≡ e.size
    size-is = size_there region table i e is (sound.lies i)

    in-region : e.place + e.size ≤ length region
    in-region = lies_there region table i e is (sound.lies i)

    is-there : IsThere S i
    is-there = subst IsBlock (sym (block_there region table i e is)) tt

    slot-small : i < 2048
    slot-small = there_small S i sound.laid is-there

    gone : Differs S (with_block S i None 0) i 0 0
    gone = with_block-differs S i None 0 sound.laid slot-small

    some-bytes : 0 < size_of S i
    some-bytes = omega (arith, (sound.laid.sized i is-there).0)

    index-gone : IsIndexed (with_block S i None 0) (slice_set index (e.place / 64) None)
    index-gone = ap-at (indexed-freed S (with_block S i None 0) index i gone some-bytes sound.indexed)
      where
        ap-at : IsIndexed (with_block S i None 0) (slice_set index (place_of S i / 64) None)
            → IsIndexed (with_block S i None 0) (slice_set index (e.place / 64) None)
        ap-at h = subst (λ p. IsIndexed (with_block S i None 0) (slice_set index (p / 64) None)) (place_there region table i e is) h

    pub remove-step : Step region (slice_set table i None) (slice_set index (e.place / 64) None) (with_block S i None 0)
    remove-step = step region None (slice_set index (e.place / 64) None) None refl (λ j ne. refl) refl tt
        (laid-gone S i sound.laid is-there) index-gone

    locks-is : locks_of S i ≡ e.locks
    locks-is = ap locks_in (block_there region table i e is)

    pub relocate-step : (to size : ℕ) → size_of S i ≤ size → size ≤ 65520 → size % 16 ≡ 0 → to + size ≤ length region
        → IsFreeBut S i to (to + size) → (region' : List ℕ) → region' ≡ with_part (with_part region to (part region e.place e.size))
        (to + e.size) (replicate (size - e.size) 0)
        → Step region' (slice_set table i (Some (record { place = to; size = size; locks = e.locks })))
        (slice_set (slice_set index (e.place / 64) None) (to / 64) (Some i)) (with_block S i (grown_block S i size) to)
    relocate-step to size more small even room free region' eq =
        let xs : List ℕ = part region e.place e.size in
        let zs : List ℕ = replicate (size - e.size) 0 in
        let one : List ℕ = with_part region to xs in
        let two : List ℕ = with_part one (to + e.size) zs in
        let long : length xs ≡ e.size = length-part region e.place e.size in-region in
        let rest : length zs ≡ size - e.size = length-replicate (size - e.size) 0 in
        let enough : e.size ≤ size = omega (arith, more, size-is) in
        let first : length one ≡ length region = length-with_part region to xs in
        let second : length two ≡ length one = length-with_part one (to + e.size) zs in
        let len : length region' ≡ length region = ap length eq ∙ second ∙ first in
        let S' : Store = with_block S i (grown_block S i size) to in
        let whole : length (bytes_of S i ++ replicate (size - size_of S i) 0) ≡ size =
        omega (arith, length-append (bytes_of S i) (replicate (size - size_of S i) 0), length-replicate {A = ℕ} (size - size_of S i) 0, more) in
        let d : Differs S S' i size to = subst (λ n. Differs S S' i n to) whole
        (with_block-differs S i (grown_block S i size) to sound.laid slot-small) in
        let big : 64 ≤ size = omega (arith, (sound.laid.sized i is-there).0, more) in
        let laid : IsLaidOut S' = laid-differs S S' i size to d sound.laid room free (λ _. (big, small, even))
        (λ z. absurd (omega (arith, z, big))) in
        let M : Store = with_block S i None 0 in
        let d' : Differs M S' i size to = record {
          size = d.size;
          place = d.place;
          sizes = λ j ne. d.sizes j ne ∙ sym (gone.sizes j ne);
          places = λ j ne. d.places j ne ∙ sym (gone.places j ne);
          there = λ j ne h. back j ne (d.there j ne h);
          slots = d.slots ∙ sym gone.slots;
          spots = d.spots ∙ sym gone.spots;
          len = d.len ∙ sym gone.len;
        } in
        let off : (j : ℕ) → j ≢ i → OffEntry (slice_index_or table j None) to (to + size) =
        λ j ne. off_slot region table to (to + size) j (sound.lies j) (free j ne) in
        let bytes : part region' to size ≡ bytes_of S i ++ replicate (size - size_of S i) 0 =
        (let sum : size ≡ e.size + (size - e.size) = omega (arith, enough) in
        (λ k. part (eq k) to (sum k)) ∙ part-two region to e.size (size - e.size) xs zs long rest (omega (arith, room, enough))
        ∙ (λ k. sym (bytes_there region table i e is) k ++ replicate (size - sym size-is k) 0)) in
        step region' (Some (record { place = to; size = size; locks = e.locks }))
        (slice_set (slice_set index (e.place / 64) None) (to / 64) (Some i)) (grown_block S i size) len
        (λ j ne. ap (λ r. block_in r (slice_index_or table j None)) eq
        ∙ off_same one (to + e.size) zs (slice_index_or table j None)
        (off_less (slice_index_or table j None) to (to + size) (to + e.size) (to + e.size + length zs) (omega arith)
        (omega (arith, rest, enough)) (off j ne))
        ∙ off_same region to xs (slice_index_or table j None)
        (off_less (slice_index_or table j None) to (to + size) to (to + length xs) (omega arith) (omega (arith, long, enough)) (off j ne)))
        (λ k. Some (record { locks = sym locks-is k; bytes = bytes k }))
        (omega (arith, len, room)) laid (indexed-put M S' (slice_set index (e.place / 64) None) i size to d' gone.size big laid index-gone)
      where
        back : (j : ℕ) → j ≢ i → IsThere S j → IsThere (with_block S i None 0) j
        back j ne h = subst IsBlock (sym (get_or-set_other S.blocks i j None None ne)) h

    pub locks-step : (n : ℕ) → Step region (slice_set table i (Some (record { place = e.place; size = e.size; locks = n }))) index (with_locks S i n)
    locks-step n =
        let same : with_block S i (block_with_locks S i n) e.place ≡ with_locks S i n =
        (let spots : slice_set S.places i e.place ≡ S.places = ap (λ p. slice_set S.places i p) (sym (place_there region table i e is))
        ∙ set-get_or S.places i 0 in
        λ k. record { blocks = slice_set S.blocks i (block_with_locks S i n); places = spots k; len = S.len }) in
        let shape : SameShape S (with_locks S i n) = with_locks-shape S i n sound.laid is-there in
        let laid : IsLaidOut (with_locks S i n) = laid-same S (with_locks S i n) shape sound.laid in
        let indexed : IsIndexed (with_locks S i n) index = indexed-same S (with_locks S i n) index shape sound.indexed in
        let done : Step region (slice_set table i (Some (record { place = e.place; size = e.size; locks = n }))) index
        (with_block S i (block_with_locks S i n) e.place) =
        step region (Some (record { place = e.place; size = e.size; locks = n })) index (block_with_locks S i n) refl (λ j ne. refl)
        (λ k. Some (record { locks = n; bytes = sym (bytes_there region table i e is) k })) in-region
        (subst IsLaidOut (sym same) laid) (subst (λ s. IsIndexed s index) (sym same) indexed) in
        record { sound = done.sound; is = done.is ∙ same }

-- the same over the store that callers see
module _ (limits : Limits) (region : List ℕ) (table : List (Option Entry)) (index : List (Option ℕ)) (seen : Store)
    (view : with_limits (store_in region table) limits ≡ seen) (sound : IsSound region table index) (i : ℕ) where
  pub create_seen : (at size : ℕ) → (i < 2048) × (IsThere seen i → ⊥) → IsBlockSize size → at + size ≤ seen.len.region
      → IsFreeBut seen i at (at + size) → (region' : List ℕ) → region' ≡ with_part region at (replicate size 0)
      → Stands limits region' (slice_set table i (Some (record { place = at; size = size; locks = 0 }))) (slice_set index (at / 64) (Some i))
      (with_block seen i (new_block size) at)
  create_seen at size slot legal room free region' eq =
      subst (λ s. (i < 2048) × (IsThere s i → ⊥) → at + size ≤ s.len.region → IsFreeBut s i at (at + size)
      → Stands limits region' (slice_set table i (Some (record { place = at; size = size; locks = 0 })))
      (slice_set index (at / 64) (Some i)) (with_block s i (new_block size) at))
      view (λ slot room free. limited limits region' _ _ _ (create-step region table index sound i at size slot.0 slot.1 legal room free region' eq))
      slot room free

  -- the granule of an offset is within the index
  pub granule_seen : (at : ℕ) → at ≤ seen.len.region → at / 64 < length index
  granule_seen at low = omega (arith, low, sound.indexed.long, ap (λ s. s.len.region) view)

  pub entry_seen : IsThere seen i → IsEntry (slice_index_or table i None)
  entry_seen there = entry_there region table i (subst (λ s. IsThere s i) (sym view) there)

  module _ (e : Entry) (is : slice_index_or table i None ≡ Some e) where
    pub slot_seen : i < length table
    slot_seen = omega (arith, slot-small region table index sound i e is, sound.laid.slots, length-map table (block_in region))

    pub lies_seen : e.place + e.size ≤ seen.len.region
    lies_seen = omega (arith, in-region region table index sound i e is, ap (λ s. s.len.region) view)

    pub remove_seen : Stands limits region (slice_set table i None) (slice_set index (e.place / 64) None) (with_block seen i None 0)
    remove_seen = subst (λ s. Stands limits region (slice_set table i None) (slice_set index (e.place / 64) None) (with_block s i None 0)) view
        (limited limits region _ _ _ (remove-step region table index sound i e is))

    pub locks_seen : (n : ℕ) → Stands limits region (slice_set table i (Some (record { place = e.place; size = e.size; locks = n }))) index
        (with_locks seen i n)
    locks_seen n = subst (λ s. Stands limits region (slice_set table i (Some (record { place = e.place; size = e.size; locks = n }))) index (with_locks s i n))
        view (limited limits region _ _ _ (locks-step region table index sound i e is n))

    pub size_seen : e.size ≡ size_of seen i
    size_seen = subst (λ s. e.size ≡ size_of s i) view (sym (size-is region table index sound i e is))

    pub relocate_seen : (to size : ℕ) → (size_of seen i ≤ size) × (size ≤ 65520) × (size % 16 ≡ 0) → to + size ≤ seen.len.region
        → IsFreeBut seen i to (to + size) → (region' : List ℕ) → region' ≡ with_part (with_part region to (part region e.place e.size))
        (to + e.size) (replicate (size - e.size) 0)
        → Stands limits region' (slice_set table i (Some (record { place = to; size = size; locks = e.locks })))
        (slice_set (slice_set index (e.place / 64) None) (to / 64) (Some i)) (with_block seen i (grown_block seen i size) to)
    relocate_seen to size legal room free region' eq =
        subst (λ s. (size_of s i ≤ size) × (size ≤ 65520) × (size % 16 ≡ 0) → to + size ≤ s.len.region → IsFreeBut s i to (to + size)
        → Stands limits region' (slice_set table i (Some (record { place = to; size = size; locks = e.locks })))
        (slice_set (slice_set index (e.place / 64) None) (to / 64) (Some i)) (with_block s i (grown_block s i size) to))
        view (λ legal room free. limited limits region' _ _ _
        (relocate-step region table index sound i e is to size legal.0 legal.1 legal.2 room free region' eq)) legal room free

    -- the same if only the place and the size were written
    pub relocate_put : (to size : ℕ) → (size_of seen i ≤ size) × (size ≤ 65520) × (size % 16 ≡ 0) → to + size ≤ seen.len.region
        → IsFreeBut seen i to (to + size) → (region' : List ℕ) → region' ≡ with_part (with_part region to (part region e.place e.size))
        (to + e.size) (replicate (size - e.size) 0)
        → (after : List (Option Entry))
        → IfSome (slice_index_or table i None) (λ x. after ≡ slice_set table i (Some (record x { place = to; size = size })))
        → Stands limits region' after (slice_set (slice_set index (e.place / 64) None) (to / 64) (Some i)) (with_block seen i (grown_block seen i size) to)
    relocate_put to size legal room free region' eq after put =
        let same : after ≡ slice_set table i (Some (record { place = to; size = size; locks = e.locks })) =
        subst (λ o. IfSome o (λ x. after ≡ slice_set table i (Some (record x { place = to; size = size })))) is put in
        subst (λ t. Stands limits region' t (slice_set (slice_set index (e.place / 64) None) (to / 64) (Some i))
        (with_block seen i (grown_block seen i size) to)) (sym same) (relocate_seen to size legal room free region' eq)

    pub count_seen : locks_of seen i ≡ e.locks
    count_seen = subst (λ s. locks_of s i ≡ e.locks) view (locks-is region table index sound i e is)

    pub there_seen : IsThere seen i
    there_seen = subst (λ s. IsThere s i) view (is-there region table index sound i e is)

-- the state after a request for a lock
pub record Locks (limits : Limits) (region : List ℕ) (index : List (Option ℕ)) (seen : Store) (i : ℕ) (after : List (Option Entry)) (took : Bool) : Type 0 where
  pub sound : IsSound region after index
  pub taken : IsTrue took → IsThere seen i × (locks_of seen i < 65535) × (with_limits (store_in region after) limits ≡ with_lock_more seen i)
  pub refused : IsFalse took → IsThere seen i → locks_of seen i ≡ 65535
  pub same : IsFalse took → with_limits (store_in region after) limits ≡ seen

apart : true ≡ false → ⊥
apart e = cc

-- locks of the block in a slot
module _ (limits : Limits) (region : List ℕ) (table : List (Option Entry)) (index : List (Option ℕ)) (seen : Store)
    (view : with_limits (store_in region table) limits ≡ seen) (sound : IsSound region table index) (i : ℕ) where
  pub small_seen : IsThere seen i → i < 2048
  small_seen there = there_small (store_in region table) i sound.laid (subst (λ s. IsThere s i) (sym view) there)

  pub sized_seen : HasSize (slice_index_or table i None)
  sized_seen = go (slice_index_or table i None) refl
    where
      go : (o : Option Entry) → slice_index_or table i None ≡ o → HasSize o
      go None is = tt
      go (Some e) is = omega (arith, size-is region table index sound i e is, some-bytes region table index sound i e is)

  pub locked_seen : 0 < locks_of seen i → IsLocked (slice_index_or table i None)
  locked_seen some = go (slice_index_or table i None) refl (entry_seen limits region table index seen view sound i (there_of_locks seen i some))
    where
      go : (o : Option Entry) → slice_index_or table i None ≡ o → IsEntry o → IsLocked o
      go None is h = h
      go (Some e) is h = omega (arith, some, count_seen limits region table index seen view sound i e is)

  -- only the entry's lock count was written
  counted : (e : Entry) → slice_index_or table i None ≡ Some e → (n m : ℕ) → n ≡ m → (after : List (Option Entry))
      → after ≡ slice_set table i (Some (record e { locks = n })) → Stands limits region after index (with_locks seen i m)
  counted e is n m same after put = subst (λ t. Stands limits region t index (with_locks seen i m)) (sym put)
      (subst (λ k. Stands limits region (slice_set table i (Some (record e { locks = n }))) index (with_locks seen i k)) same
      (locks_seen limits region table index seen view sound i e is n))

  pub unlock_put : 0 < locks_of seen i → (after : List (Option Entry))
      → IfSome (slice_index_or table i None) (λ e. after ≡ slice_set table i (Some (record e { locks = e.locks - 1 })))
      → Stands limits region after index (with_lock_less seen i)
  unlock_put some after put = go (slice_index_or table i None) refl (locked_seen some) put
    where
      go : (o : Option Entry) → slice_index_or table i None ≡ o → IsLocked o
          → IfSome o (λ e. after ≡ slice_set table i (Some (record e { locks = e.locks - 1 }))) → Stands limits region after index (with_lock_less seen i)
      go None is h put = absurd h
      go (Some e) is h put = counted e is (e.locks - 1) (locks_of seen i - 1)
          (omega (arith, count_seen limits region table index seen view sound i e is)) after put

  pub lock_put : (after : List (Option Entry)) (took : Bool)
      → (IsTrue took → IsSomeAnd (slice_index_or table i None)
      (λ e. (e.locks < 65535) × (after ≡ slice_set table i (Some (record e { locks = e.locks + 1 })))))
      → (IsFalse took → IfSome (slice_index_or table i None) (λ e. e.locks ≡ 65535)) → (IsFalse took → after ≡ table)
      → Locks limits region index seen i after took
  lock_put after true taken refused same = go (slice_index_or table i None) refl (taken refl)
    where
      go : (o : Option Entry) → slice_index_or table i None ≡ o
          → IsSomeAnd o (λ e. (e.locks < 65535) × (after ≡ slice_set table i (Some (record e { locks = e.locks + 1 }))))
          → Locks limits region index seen i after true
      go None is h = absurd h
      go (Some e) is h =
          let count : locks_of seen i ≡ e.locks = count_seen limits region table index seen view sound i e is in
          let done : Stands limits region after index (with_lock_more seen i) =
          counted e is (e.locks + 1) (locks_of seen i + 1) (omega (arith, count)) after h.1 in
          record {
            sound = done.sound;
            taken = λ _. (there_seen limits region table index seen view sound i e is, omega (arith, count, h.0), done.is);
            refused = λ f. absurd (apart f);
            same = λ f. absurd (apart f);
          }
  lock_put after false taken refused same = record {
    sound = subst (λ t. IsSound region t index) (sym (same refl)) sound;
    taken = λ f. absurd (apart (sym f));
    refused = λ _ there. full (slice_index_or table i None) refl (entry_seen limits region table index seen view sound i there) (refused refl);
    same = λ _. ap (λ t. with_limits (store_in region t) limits) (same refl) ∙ view;
  }
    where
      full : (o : Option Entry) → slice_index_or table i None ≡ o → IsEntry o → IfSome o (λ e. e.locks ≡ 65535) → locks_of seen i ≡ 65535
      full None is h top = absurd h
      full (Some e) is h top = count_seen limits region table index seen view sound i e is ∙ top
