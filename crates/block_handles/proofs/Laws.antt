-- What callers use of the definitions.
use Rattle.std.proofs.Common.{◌≡◌, ◌≢◌, ℕ, zero, suc, ◌+◌, ◌-◌, ◌≤◌, ◌<◌, ◌⊎◌, List, [], ◌∷◌, length, drop, Option, Some, None, slice_index, slice_index_or, length-take, length-drop, refl, ap, sym, subst, ◌∙◌, arith, inl, inr}
use Rattle.std.proofs.lemmas.List.{get_or-set_same, get_or-set_other, drop_all, ext_get_or, get_or-take, get_or-drop}
use Rattle.std.proofs.lemmas.Bool.Decides.{nat_tests}
use Rattle.lmem_raw.specs.Bytes.{part, with_part}
use Rattle.lmem_raw.proofs.Parts.{length-with_part, with_whole}
use Rattle.geos_terms.proofs.Words.{with_nothing}
use Rattle.geos_terms.specs.declared.name.Name.{Name}
use Rattle.geos_terms.specs.declared.name.Owner.{Owner}
use Rattle.geos_terms.specs.declared.name.Owner.TheVariants.{Mem, Vm}
use Rattle.block_handles.specs.Change.{with_block, without, with_locks, block_with_locks, blocks_with_bytes, with_bytes, block_after_write, blocks_after_write, after_write}
use Rattle.block_handles.specs.Layout.{Apart, IsLaidOut}
use Rattle.block_handles.specs.Offsets.{CoversRange, ReadsAs, WritesCovered, Copies}
use Rattle.block_handles.specs.Names.{IsHandle, first_slot, slot_of}
use Rattle.block_handles.proofs.Layouts.{there_of_size, there_small, laid-same, laid-gone, with_locks-shape}
use Rattle.block_handles.proofs.Writes.{with_bytes-shape}
use Rattle.block_handles.specs.Store.{Block, Store, block_at, bytes_in, bytes_of, locks_in, IsBlock, IsThere, size_of, place_of, end_of, slot_count}

written_bytes : (bs : List (Option Block)) (i : ℕ) (ws : List ℕ) → IsBlock (slice_index_or bs i None)
    → length ws ≡ length (bytes_in (slice_index_or bs i None)) → bytes_in (slice_index_or (blocks_with_bytes bs i ws) i None) ≡ ws
written_bytes [] i ws h e = absurd h
written_bytes (None ∷ bs) zero ws h e = absurd h
written_bytes (Some b ∷ bs) zero ws h e = with_whole b.bytes ws e
written_bytes (None ∷ bs) (suc i) ws h e = written_bytes bs i ws h e
written_bytes (Some b ∷ bs) (suc i) ws h e = written_bytes bs i ws h e

other_blocks : (bs : List (Option Block)) (i j : ℕ) (ws : List ℕ) → i ≢ j
    → slice_index_or (blocks_with_bytes bs i ws) j None ≡ slice_index_or bs j None
other_blocks [] i j ws n = refl
other_blocks (None ∷ bs) zero j ws n = refl
other_blocks (Some b ∷ bs) zero zero ws n = absurd (n refl)
other_blocks (Some b ∷ bs) zero (suc j) ws n = refl
other_blocks (None ∷ bs) (suc i) zero ws n = refl
other_blocks (Some b ∷ bs) (suc i) zero ws n = refl
other_blocks (None ∷ bs) (suc i) (suc j) ws n = other_blocks bs i j ws (λ e. n (ap suc e))
other_blocks (Some b ∷ bs) (suc i) (suc j) ws n = other_blocks bs i j ws (λ e. n (ap suc e))

own_blocks : (bs : List (Option Block)) (i : ℕ) → blocks_with_bytes bs i (bytes_in (slice_index_or bs i None)) ≡ bs
own_blocks [] i = refl
own_blocks (None ∷ bs) zero = refl
own_blocks (Some b ∷ bs) zero = λ k. Some (record { locks = b.locks; bytes = with_whole b.bytes b.bytes refl k }) ∷ bs
own_blocks (None ∷ bs) (suc i) = ap (λ l. None ∷ l) (own_blocks bs i)
own_blocks (Some b ∷ bs) (suc i) = ap (λ l. Some b ∷ l) (own_blocks bs i)

module _ (store : Store) (i : ℕ) where
  -- the bytes that were written, where there are as many
  pub bytes-same : (ws : List ℕ) → IsThere store i → length ws ≡ size_of store i → bytes_of (with_bytes store i ws) i ≡ ws
  bytes-same ws h e = written_bytes store.blocks i ws h e

  -- every other block is as it was
  pub others-same : (j : ℕ) (ws : List ℕ) → i ≢ j → block_at (with_bytes store i ws) j ≡ block_at store j
  others-same j ws n = other_blocks store.blocks i j ws n

  -- what is there, written again, changes nothing
  pub with_own : with_bytes store i (bytes_of store i) ≡ store
  with_own = λ k. record { blocks = own_blocks store.blocks i k; places = store.places; len = store.len }

-- two names of one slot are one name
pub same-name : (a b : Name) → IsHandle a.h → IsHandle b.h → slot_of a ≡ slot_of b → a ≡ b
same-name a b ha hb e = λ k. record { owner = (same a.owner b.owner a.h b.h ha hb e).0 k; h = (same a.owner b.owner a.h b.h ha hb e).1 k }
  where
    same : (o p : Owner) (h k : ℕ) → IsHandle h → IsHandle k → slot_of (record { owner = o; h = h }) ≡ slot_of (record { owner = p; h = k })
        → (o ≡ p) × (h ≡ k)
    same Mem Mem h k x y z = (refl, grind (arith, nat_tests))
    same Vm Vm h k x y z = (refl, grind (arith, nat_tests))
    same Mem Vm h k x y z = absurd (grind (arith, nat_tests))
    same Vm Mem h k x y z = absurd (grind (arith, nat_tests))

-- past the end nothing is written
past_end : (bs : List ℕ) (at : ℕ) (ws : List ℕ) → length bs ≤ at → with_part bs at ws ≡ bs
past_end [] at ws h = refl
past_end (b ∷ bs) zero ws h = absurd (omega arith)
past_end (b ∷ bs) (suc at) ws h = ap (λ l. b ∷ l) (past_end bs at ws (omega arith))

-- bytes that do not land in a block leave it
block_after_write-off : (b : Option Block) (place at : ℕ) (ws : List ℕ) → (place + length (bytes_in b) ≤ at) ⊎ (at + length ws ≤ place)
    → block_after_write b place at ws ≡ b
block_after_write-off None place at ws h = refl
block_after_write-off (Some b) place at ws (inl h) =
    λ k. Some (record { locks = b.locks; bytes = past_end b.bytes (at - place) (drop (place - at) ws) (omega arith) k })
block_after_write-off (Some b) place at ws (inr h) =
    λ k. Some (record {
      locks = b.locks;
      bytes = (ap (with_part b.bytes (at - place)) (drop_all (place - at) ws (omega arith))
          ∙ with_nothing b.bytes (at - place)) k;
    })

-- bytes that land in a block whole are written there
block_after_write-in : (b : Option Block) (place at : ℕ) (ws : List ℕ) → place ≤ at → IsBlock b
    → block_after_write b place at ws ≡ Some (record { locks = locks_in b; bytes = with_part (bytes_in b) (at - place) ws })
block_after_write-in None place at ws h there = absurd there
block_after_write-in (Some b) place at ws h there = let none : place - at ≡ 0 = omega arith in
    λ k. Some (record { locks = b.locks; bytes = with_part b.bytes (at - place) (drop (none k) ws) })

all_off : (at : ℕ) (ws : List ℕ) (bs : List (Option Block)) (ps : List ℕ)
    → ((j : ℕ) → (slice_index_or ps j 0 + length (bytes_in (slice_index_or bs j None)) ≤ at) ⊎ (at + length ws ≤ slice_index_or ps j 0))
    → blocks_after_write bs ps at ws ≡ bs
all_off at ws [] ps h = refl
all_off at ws (b ∷ bs) [] h = refl
all_off at ws (b ∷ bs) (p ∷ ps) h = λ k. block_after_write-off b p at ws (h 0) k ∷ all_off at ws bs ps (λ j. h (suc j)) k

one_in : (at : ℕ) (ws : List ℕ) (bs : List (Option Block)) (ps : List ℕ) (i : ℕ) → i < length ps → IsBlock (slice_index_or bs i None)
    → slice_index_or ps i 0 ≤ at
    → ((j : ℕ) → j ≢ i → (slice_index_or ps j 0 + length (bytes_in (slice_index_or bs j None)) ≤ at) ⊎ (at + length ws ≤ slice_index_or ps j 0))
    → blocks_after_write bs ps at ws ≡ blocks_with_bytes bs i (with_part (bytes_in (slice_index_or bs i None)) (at - slice_index_or ps i 0) ws)
one_in at ws [] ps i small there low off = absurd there
one_in at ws (b ∷ bs) [] i small there low off = absurd (omega arith)
one_in at ws (None ∷ bs) (p ∷ ps) zero small there low off = absurd there
one_in at ws (Some b ∷ bs) (p ∷ ps) zero small there low off =
    let same : length (with_part b.bytes (at - p) ws) ≡ length b.bytes = length-with_part b.bytes (at - p) ws in
    (λ k. block_after_write-in (Some b) p at ws low tt k ∷ all_off at ws bs ps (λ j. off (suc j) (λ z. absurd (omega (arith, z)))) k)
    ∙ (λ k. Some (record { locks = b.locks; bytes = sym (with_whole b.bytes (with_part b.bytes (at - p) ws) same) k }) ∷ bs)
one_in at ws (None ∷ bs) (p ∷ ps) (suc i) small there low off = λ k. None ∷ one_in at ws bs ps i (omega arith) there low
    (λ j n. off (suc j) (λ z. n (omega (arith, z)))) k
one_in at ws (Some b ∷ bs) (p ∷ ps) (suc i) small there low off = λ k. block_after_write-off (Some b) p at ws
    (off 0 (λ z. absurd (omega (arith, z)))) k ∷ one_in at ws bs ps i (omega arith) there low (λ j n. off (suc j) (λ z. n (omega (arith, z)))) k

-- a write that one block covers is a write to that block
pub after_write-covered : (store : Store) (i at : ℕ) (ws : List ℕ) → IsLaidOut store → 0 < length ws
    → CoversRange store i at (length ws) → after_write store at ws ≡ with_bytes store i (with_part (bytes_of store i) (at - place_of store i) ws)
after_write-covered store i at ws laid some covers =
    let there : IsThere store i = there_of_size store i (omega (arith, some, covers.0, covers.1)) in
    let small : i < length store.places = omega (arith, laid.spots, there_small store i laid there) in
    λ k. record {
      blocks = one_in at ws store.blocks store.places i small there covers.0 (λ j ne. off j (laid.apart j i ne)) k;
      places =
          store.places;
      len = store.len;
    }
  where
    off : (j : ℕ) → Apart store j i → (end_of store j ≤ at) ⊎ (at + length ws ≤ place_of store j)
    off j (inl q) = inl (omega (arith, q, covers.0))
    off j (inr q) = inr (omega (arith, q, covers.1))

-- a write changes what covers it
pub writes-covered : (old new : Store) (at : ℕ) (ws : List ℕ) → IsLaidOut old → new ≡ after_write old at ws → WritesCovered old new at ws
writes-covered old new at ws laid e = λ slot some covers. e ∙ after_write-covered old slot at ws laid some covers

-- what was read of one block is a part of its bytes
pub reads-covered : (store : Store) (slot at n : ℕ) (ws : List ℕ) → length ws ≡ n → ReadsAs store at ws
    → CoversRange store slot at n → ws ≡ part (bytes_of store slot) (at - place_of store slot) n
reads-covered store slot at n ws long reads covers =
    let k : ℕ = at - place_of store slot in
    let fits : k + n ≤ size_of store slot = omega (arith, covers.0, covers.1) in
    let same : length ws ≡ length (part (bytes_of store slot) k n) =
    omega (arith, long, length-take n (drop k (bytes_of store slot)), length-drop k (bytes_of store slot), fits) in
    ext_get_or 0 ws (part (bytes_of store slot) k n) same (λ i small. byte i (omega (arith, small, long)))
  where
    byte : (i : ℕ) → i < n → slice_index ws i ≡ slice_index (part (bytes_of store slot) (at - place_of store slot) n) i
    byte i small =
        let place : at + i - place_of store slot ≡ at - place_of store slot + i = omega (arith, covers.0) in
        reads slot i (omega (arith, small, long)) (omega (arith, covers.0), omega (arith, covers.1, small))
        ∙ ap (λ j. slice_index (bytes_of store slot) j) place
        ∙ sym (get_or-take n (drop (at - place_of store slot) (bytes_of store slot)) i 0 small
        ∙ get_or-drop (at - place_of store slot) (bytes_of store slot) i 0)

-- a copy from a part of one block
pub copy-covered : (old new : Store) (from to n : ℕ) → IsLaidOut old → Copies old new from to n → (slot : ℕ)
    → CoversRange old slot from n → WritesCovered old new to (part (bytes_of old slot) (from - place_of old slot) n)
copy-covered old new from to n laid c slot covers = writes-covered old new to (part (bytes_of old slot) (from - place_of old slot) n) laid
    (c.wrote ∙ ap (λ ws. after_write old to ws) (reads-covered old slot from n c.bytes c.long c.read covers))

-- the slot of a handle
pub slot_of-handle : (owner : Owner) (h : ℕ) → IsHandle h → slot_of (record { owner = owner; h = h }) ≡ first_slot owner + (h - 1)
slot_of-handle owner h q = grind (arith, nat_tests)

-- each handle has a slot
pub slot_of-small : (name : Name) → IsHandle name.h → slot_of name < 2048
slot_of-small name q = small name.owner name.h q
  where
    small : (owner : Owner) (h : ℕ) → IsHandle h → slot_of (record { owner = owner; h = h }) < 2048
    small Mem h r = omega (arith, slot_of-handle Mem h r, r.1)
    small Vm h r = omega (arith, slot_of-handle Vm h r, r.1)

-- a block that is there has a handle
pub handle_of_there : (store seen : Store) (name : Name) → store ≡ seen → IsLaidOut store → IsThere seen (slot_of name) → IsHandle name.h
handle_of_there store seen name same laid there =
    let small = there_small store (slot_of name) laid (subst (λ s. IsThere s (slot_of name)) (sym same) there) in grind (arith, nat_tests)

module _ (store : Store) (i : ℕ) where
  -- what was put into a slot is there, and every other block is as it was
  pub with_block-same : (block : Option Block) (place : ℕ) → i < slot_count store → block_at (with_block store i block place) i ≡ block
  with_block-same block place small = get_or-set_same store.blocks i block None small

  pub with_block-other : (block : Option Block) (place j : ℕ) → j ≢ i → block_at (with_block store i block place) j ≡ block_at store j
  with_block-other block place j ne = get_or-set_other store.blocks i j block None ne

  -- a lock changes only one lock count
  pub with_locks-same : (n : ℕ) → i < slot_count store → block_at (with_locks store i n) i ≡ block_with_locks store i n
  with_locks-same n small = get_or-set_same store.blocks i (block_with_locks store i n) None small

  pub with_locks-other : (n j : ℕ) → j ≢ i → block_at (with_locks store i n) j ≡ block_at store j
  with_locks-other n j ne = get_or-set_other store.blocks i j (block_with_locks store i n) None ne

-- blocks still lie as they should, where no place and no size has changed, or a block has gone
module _ (store : Store) (laid : IsLaidOut store) where
  pub laid-with_bytes : (i : ℕ) (ws : List ℕ) → IsLaidOut (with_bytes store i ws)
  laid-with_bytes i ws = laid-same store (with_bytes store i ws) (with_bytes-shape store i ws) laid

  module _ (i : ℕ) (there : IsThere store i) where
    pub laid-with_locks : (n : ℕ) → IsLaidOut (with_locks store i n)
    laid-with_locks n = laid-same store (with_locks store i n) (with_locks-shape store i n laid there) laid

    pub laid-without : IsLaidOut (without store i)
    laid-without = laid-gone store i laid there
