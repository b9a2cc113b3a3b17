-- The definitions computed on blocks that are written out.
use Rattle.std.proofs.Common.{◌≡◌, ℕ, zero, suc, ◌+◌, ◌<◌, ◌++◌, List, [], ◌∷◌, Some, None, replicate, refl, lit<, lit≤, inl, arith}
use Rattle.geos_terms.specs.Bytes.{word}
use Rattle.geos_terms.specs.Chunks.{cost, used_bytes, need, with_new, new_handle, without, with_resized, with_inserted, with_deleted, chunk_of}
use Rattle.geos_terms.specs.Block.{chunks, entry, table_end, place_of, first_free, handle_word}
use Rattle.geos_terms.specs.Heap.{Tiles, Used, Free, IsOffset, HasChunk, IsHeap}

-- a fresh block of 64 bytes with handle 1
abbrev fresh : List ℕ
fresh = (1 ∷ 0 ∷ 16 ∷ 0 ∷ 0 ∷ 0 ∷ 0 ∷ 0 ∷ 64 ∷ 0 ∷ 2 ∷ 0 ∷ 20 ∷ 0 ∷ 44 ∷ 0 ∷ 0 ∷ 0 ∷ 0 ∷ 0 ∷ 44 ∷ 0 ∷ 0 ∷ 0 ∷ []) ++ replicate 40 0

fresh_handle : handle_word fresh ≡ 1
unfolding word
fresh_handle = refl

fresh_chunks : chunks fresh ≡ None ∷ None ∷ []
unfolding word
fresh_chunks = refl

fresh_is_heap : IsHeap fresh
unfolding word cost
fresh_is_heap = (
  record {
    table = refl;
    flags = refl;
    kind = refl;
    size = refl;
    least = lit≤ tt;
    most = lit≤ tt;
    sixteens =
        refl;
    pairs = refl;
    some = lit≤ tt;
    fits = lit≤ tt;
  },
  (Free 44 ∷ [], record { tiles = (lit< tt, refl, refl, refl, (λ e. absurd (omega arith)), (refl, refl)); all = all; total = refl }),
)
  where
    all : (i : ℕ) → i < 2 → IsOffset (entry fresh i) → HasChunk i (Free 44 ∷ [])
    all zero h t = absurd (t.0 refl)
    all (suc zero) h t = absurd (t.0 refl)
    all (suc (suc i)) h t = absurd (omega arith)

-- 44 bytes are free; a chunk of 10 bytes is 16, and 32 are left; one of 30 is 18, and none is
-- left
fresh_bytes_left : (used_bytes (None ∷ None ∷ []) + 44 ≡ 64) × (used_bytes (with_new (None ∷ None ∷ []) 10) + 32 ≡ 64)
    × (used_bytes (with_new (with_new (None ∷ None ∷ []) 10) 30) + 0 ≡ 64)
unfolding cost
fresh_bytes_left = (refl, refl, refl)

fresh_handles : (new_handle (None ∷ None ∷ []) ≡ 16) × (new_handle (with_new (None ∷ None ∷ []) 10) ≡ 18)
fresh_handles = (refl, refl)

-- a third chunk, of one byte, is 20 and makes the table larger: 80 bytes are needed, of which
-- 8 are left
third_chunk_needs : (need (with_new (with_new (with_new (None ∷ None ∷ []) 10) 30) 1) ≡ 80)
    × (used_bytes (with_new (with_new (with_new (None ∷ None ∷ []) 10) 30) 1) + 8 ≡ 80)
    × (new_handle (with_new (with_new (None ∷ None ∷ []) 10) 30) ≡ 20)
unfolding cost
third_chunk_needs = (refl, refl, refl)

-- the largest block takes a chunk of 65,498 bytes and one of none, not one of 65,499, and no
-- third
largest_block : (16 + 4 + cost 65498 + cost 0 ≡ 65520) × (16 + 4 + cost 65499 ≡ 65524) × (16 + 8 + cost 65498 + cost 0 + cost 0 ≡ 65524)
unfolding cost
largest_block = (refl, refl, refl)

-- after two chunks of 10 bytes, the first of which is free again
abbrev freed : List ℕ
freed = ((1 ∷ 0 ∷ 16 ∷ 0 ∷ 0 ∷ 0 ∷ 0 ∷ 0 ∷ 64 ∷ 0 ∷ 2 ∷ 0 ∷ 20 ∷ 0 ∷ 32 ∷ 0 ∷ 0 ∷ 0 ∷ 34 ∷ 0 ∷ 12 ∷ 0 ∷ 44 ∷ 0 ∷ []) ++ replicate 8 0)
    ++ ((12 ∷ 0 ∷ []) ++ (7 ∷ []) ++ replicate 9 0 ++ (20 ∷ 0 ∷ 0 ∷ 0 ∷ []) ++ replicate 16 0)

freed_chunks : chunks freed ≡ None ∷ Some (7 ∷ replicate 9 0) ∷ []
unfolding word
freed_chunks = refl

freed_places : (place_of freed 16 ≡ None) × (place_of freed 18 ≡ Some (record { at = 34; len = 10 }))
    × (place_of freed 17 ≡ None) × (place_of freed 20 ≡ None)
unfolding word
freed_places = (refl, refl, refl, refl)

freed_is_heap : IsHeap freed
unfolding word cost
freed_is_heap = (
  record {
    table = refl;
    flags = refl;
    kind = refl;
    size = refl;
    least = lit≤ tt;
    most = lit≤ tt;
    sixteens =
        refl;
    pairs = refl;
    some = lit≤ tt;
    fits = lit≤ tt;
  },
  (Free 12 ∷ Used 1 10 ∷ Free 20 ∷ [], record { tiles = tiles; all = all; total = refl }),
)
  where
    tiles : Tiles freed (table_end freed) (first_free freed) (Free 12 ∷ Used 1 10 ∷ Free 20 ∷ []) 64 0
    tiles = (
      lit< tt,
      refl,
      refl,
      refl,
      (λ e. absurd (omega arith)),
      (lit< tt, lit< tt, refl, refl, (lit< tt, refl, refl, refl, (λ e. absurd (omega arith)), (refl, refl))),
    )

    all : (i : ℕ) → i < 2 → IsOffset (entry freed i) → HasChunk i (Free 12 ∷ Used 1 10 ∷ Free 20 ∷ [])
    all zero h t = absurd (t.0 refl)
    all (suc zero) h t = inl refl
    all (suc (suc i)) h t = absurd (omega arith)

-- what the calls do to chunks
calls_on_chunks : (with_new (None ∷ Some (5 ∷ []) ∷ []) 2 ≡ Some (0 ∷ 0 ∷ []) ∷ Some (5 ∷ []) ∷ [])
    × (with_new (Some [] ∷ Some [] ∷ []) 1 ≡ Some [] ∷ Some [] ∷ Some (0 ∷ []) ∷ None ∷ [])
    × (without (Some (1 ∷ []) ∷ Some (5 ∷ []) ∷ []) 18 ≡ Some (1 ∷ []) ∷ None ∷ [])
    × (with_resized (Some (1 ∷ 2 ∷ []) ∷ None ∷ []) 16 4 ≡ Some (1 ∷ 2 ∷ 0 ∷ 0 ∷ []) ∷ None ∷ [])
    × (with_resized (Some (1 ∷ 2 ∷ []) ∷ None ∷ []) 16 1 ≡ Some (1 ∷ []) ∷ None ∷ [])
    × (with_inserted (Some (1 ∷ 2 ∷ []) ∷ None ∷ []) 16 1 2 ≡ Some (1 ∷ 0 ∷ 0 ∷ 2 ∷ []) ∷ None ∷ [])
    × (with_deleted (Some (1 ∷ 2 ∷ 3 ∷ 4 ∷ []) ∷ None ∷ []) 16 1 2 ≡ Some (1 ∷ 4 ∷ []) ∷ None ∷ [])
    × (chunk_of (None ∷ Some (5 ∷ []) ∷ []) 18 ≡ Some (5 ∷ []))
    × (chunk_of (None ∷ Some (5 ∷ []) ∷ []) 19 ≡ None)
calls_on_chunks = (refl, refl, refl, refl, refl, refl, refl, refl, refl)
