-- A block whose bytes were lent to its heap.
use Rattle.std.proofs.Common.{◌≡◌, ℕ, zero, suc, ◌<◌, List, [], ◌∷◌, length, set, get_or, Option, Some, None, refl, ap, ◌∙◌, subst, inl, inr}
use Rattle.std.proofs.lemmas.Bool.{cases_lt}
use Rattle.std.proofs.lemmas.List.{get_or_past}
use Rattle.lmem_raw.proofs.Parts.{with_whole}
use Rattle.block_handles.specs.Change.{blocks_with_bytes, with_bytes}
use Rattle.block_handles.specs.Store.{Block, Store, IsBlock, IsThere, bytes_in, locks_in, bytes_of, size_of}
use Rattle.block_handles.proofs.Laws.{with_own, laid-with_bytes}
use Rattle.geos_terms.specs.Block as block
use Rattle.geos_terms.specs.Heap.{IsHeap}
use Rattle.chunk_calls.specs.Heaps.{Rechunks}

-- a slot with a block is one of the list
pub inside : (s : Store) (slot : ℕ) → IsThere s slot → slot < length s.blocks
inside s slot there = elim (cases_lt slot (length s.blocks))
    [ inl lt ↦ lt | inr past ↦ absurd (subst IsBlock (get_or_past s.blocks slot None past) there) ]

-- bytes of the same length, put into a block, set its slot
pub with_bytes-set : (bs : List (Option Block)) (i : ℕ) (ws : List ℕ) → IsBlock (get_or bs i None) → length ws ≡ length (bytes_in (get_or bs i None))
    → blocks_with_bytes bs i ws ≡ set bs i (Some (record { locks = locks_in (get_or bs i None); bytes = ws }))
with_bytes-set [] i ws there long = absurd there
with_bytes-set (None ∷ bs) zero ws there long = absurd there
with_bytes-set (Some b ∷ bs) zero ws there long = λ k. Some (record { locks = b.locks; bytes = with_whole b.bytes ws long k }) ∷ bs
with_bytes-set (None ∷ bs) (suc i) ws there long = ap (λ l. None ∷ l) (with_bytes-set bs i ws there long)
with_bytes-set (Some b ∷ bs) (suc i) ws there long = ap (λ l. Some b ∷ l) (with_bytes-set bs i ws there long)

module _ (old : Store) (slot : ℕ) (there : IsThere old slot) (ws : List ℕ) where
  -- a heap that was left in the bytes of a block
  pub lent-heap : (was : List ℕ) (cs : List (Option (List ℕ))) → was ≡ bytes_of old slot → length ws ≡ length was
      → IsHeap ws → block.handle_word ws ≡ block.handle_word was → block.chunks ws ≡ cs
      → Rechunks old (with_bytes old slot ws) slot cs (size_of old slot)
  lent-heap was cs value long heap handle spells = record {
    bytes = ws;
    blocks = with_bytes-set old.blocks slot ws there (long ∙ ap length value);
    stay = λ j ne locked. refl;
    len = refl;
    laid = λ l. laid-with_bytes old l slot ws;
    heap = heap;
    handle = handle ∙ ap block.handle_word value;
    spells = spells;
    long = long ∙ ap length value;
  }

  -- bytes that were left as they were
  pub lent-same : (was : List ℕ) → was ≡ bytes_of old slot → ws ≡ was → with_bytes old slot ws ≡ old
  lent-same was value same = ap (with_bytes old slot) (same ∙ value) ∙ with_own old slot
