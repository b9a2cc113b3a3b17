-- Blocks whose heap has changed, one step after another, slot by slot.
use Rattle.std.proofs.Common.{◌≡◌, ◌≢◌, ℕ, ◌-◌, ◌<◌, ◌≤◌, List, ◌++◌, length, set, get_or, replicate, take, Option, Some, None, sym, ap, ◌∙◌, arith, subst}
use Rattle.std.specs.Prelude.{max}
use Rattle.std.proofs.lemmas.List.{get_or-set_same, get_or-set_other, set-set, length-replicate, length-append}
use Rattle.std.proofs.Math.Seq.{take-append_seam}
use Rattle.geos_terms.specs.declared.name.Name.{Name}
use Rattle.geos_terms.specs.Chunks.{need}
use Rattle.geos_terms.proofs.Fits.{need-fits}
use Rattle.block_handles.specs.Calls.{Grows}
use Rattle.block_handles.specs.Names.{slot_of}
use Rattle.block_handles.specs.Change.{with_bytes, grown_block}
use Rattle.block_handles.specs.Store.{Block, Store, block_at, IsBlock, IsThere, bytes_in, locks_in, bytes_of, size_of, locks_of}
use Rattle.geos_terms.specs.Block as block
use Rattle.geos_terms.specs.Heap.{IsHeap}
use Rattle.chunk_calls.specs.Heaps.{Rechunks, Edits, Regrows, size_at}
use Rattle.block_handles.proofs.Laws.{laid-with_bytes}
use Rattle.lmem_heap.proofs.Enlarging.{handle-take}
use Rattle.chunk_calls.proofs.Lent.{with_bytes-set, inside}

module _ (old mid : Store) (slot : ℕ) (there : IsThere old slot) (cs : List (Option (List ℕ))) (k : ℕ) (r : Rechunks old mid slot cs k) where
  abbrev pub own : Option Block
  own = Some (record { locks = locks_of old slot; bytes = r.bytes })

  pub rechunked : block_at mid slot ≡ own
  rechunked = ap (λ bs. get_or bs slot None) r.blocks ∙ get_or-set_same old.blocks slot own None (inside old slot there)

  pub rechunked-other : (j : ℕ) → j ≢ slot → block_at mid j ≡ block_at old j
  rechunked-other j ne = ap (λ bs. get_or bs j None) r.blocks ∙ get_or-set_other old.blocks slot j own None ne

  pub rechunked-there : IsThere mid slot
  rechunked-there = subst IsBlock (sym rechunked) tt

  pub rechunked-locks : locks_of mid slot ≡ locks_of old slot
  rechunked-locks = ap locks_in rechunked

  pub rechunked-heap : IsHeap (bytes_of mid slot)
  rechunked-heap = subst IsHeap (sym (ap bytes_in rechunked)) r.heap

  pub rechunked-chunks : block.chunks (bytes_of mid slot) ≡ cs
  rechunked-chunks = ap (λ o. block.chunks (bytes_in o)) rechunked ∙ r.spells

  pub rechunked-handle : block.handle_word (bytes_of mid slot) ≡ block.handle_word (bytes_of old slot)
  rechunked-handle = ap (λ o. block.handle_word (bytes_in o)) rechunked ∙ r.handle

  pub rechunked-size : size_of mid slot ≡ k
  rechunked-size = ap (λ o. length (bytes_in o)) rechunked ∙ r.long

  -- one change after another is one change
  pub rechunked-again : (new : Store) (ds : List (Option (List ℕ))) (n : ℕ) → Rechunks mid new slot ds n → Rechunks old new slot ds n
  rechunked-again new ds n s = record {
    bytes = s.bytes;
    blocks = s.blocks ∙ ap (λ bs. set bs slot (Some (record { locks = locks_of mid slot; bytes = s.bytes }))) r.blocks
        ∙ set-set old.blocks slot own (Some (record { locks = locks_of mid slot; bytes = s.bytes }))
        ∙ ap (λ l. set old.blocks slot (Some (record { locks = l; bytes = s.bytes }))) rechunked-locks;
    stay = λ j ne locked. s.stay j ne (subst (λ o. 0 < locks_in o) (sym (rechunked-other j ne)) locked) ∙ r.stay j ne locked;
    len = s.len ∙ r.len;
    laid = λ l. s.laid (r.laid l);
    heap = s.heap;
    handle = s.handle ∙ ap (λ o. block.handle_word (bytes_in o)) rechunked ∙ r.handle;
    spells = s.spells;
    long = s.long;
  }

module _ (old mid : Store) (slot size : ℕ) (there : IsThere old slot) (g : Grows old mid slot size) where
  grown : block_at mid slot ≡ grown_block old slot size
  grown = ap (λ bs. get_or bs slot None) g.blocks ∙ get_or-set_same old.blocks slot (grown_block old slot size) None (inside old slot there)

  pub grown-there : IsThere mid slot
  grown-there = subst IsBlock (sym grown) tt

  grown-bytes : bytes_of mid slot ≡ bytes_of old slot ++ replicate (size - size_of old slot) 0
  grown-bytes = ap bytes_in grown

  pub grown-size : size_of old slot < size → size_of mid slot ≡ size
  grown-size less = ap length grown-bytes ∙ length-append (bytes_of old slot) (replicate (size - size_of old slot) 0)
      ∙ omega (arith, length-replicate {A = ℕ} (size - size_of old slot) 0, less)

  -- the bytes of the grown block begin with its old bytes
  pub grown-front : (was : List ℕ) (old_size : ℕ) → old_size ≡ size_of old slot → was ≡ bytes_of mid slot → take old_size was ≡ bytes_of old slot
  grown-front was old_size same value =
      ap (take old_size) (value ∙ grown-bytes) ∙ ap (λ n. take n (bytes_of old slot ++ replicate (size - size_of old slot) 0)) same
      ∙ take-append_seam (bytes_of old slot) (replicate (size - size_of old slot) 0)

  -- the heap of a block that has grown
  pub grown-heap : (was ws : List ℕ) (old_size : ℕ) → size_of old slot < size → old_size ≡ size_of old slot
      → was ≡ bytes_of mid slot → length ws ≡ length was → IsHeap ws → 2 ≤ old_size → block.handle_word ws ≡ block.handle_word was
      → block.chunks ws ≡ block.chunks (take old_size was) → Rechunks old (with_bytes mid slot ws) slot (block.chunks (bytes_of old slot)) size
  grown-heap was ws old_size less same value long heap some handle spells =
      let first = grown-front was old_size same value in
      record {
        bytes = ws;
        blocks = with_bytes-set mid.blocks slot ws grown-there (long ∙ ap length value)
            ∙ ap (λ bs. set bs slot (Some (record { locks = locks_of mid slot; bytes = ws }))) g.blocks
            ∙ set-set old.blocks slot (grown_block old slot size) (Some (record { locks = locks_of mid slot; bytes = ws }))
            ∙ ap (λ o. set old.blocks slot (Some (record { locks = locks_in o; bytes = ws }))) grown;
        stay = g.stay;
        len = g.len;
        laid = λ l. laid-with_bytes mid g.laid slot ws;
        heap = heap;
        handle = handle ∙ sym (handle-take was old_size some) ∙ ap block.handle_word first;
        spells = spells ∙ ap block.chunks first;
        long = long ∙ ap length value ∙ grown-size less;
      }

-- Chunks that a block has got

-- without growing, need no more than it has
kept-max : (old new : Store) (name : Name) (cs : List (Option (List ℕ))) → Edits old new name cs → size_at old name ≡ max (size_at old name) (need cs)
kept-max old new name cs r =
    let fits : need cs ≤ length r.bytes = subst (λ c. need c ≤ length r.bytes) r.spells (need-fits r.bytes r.heap) in
    larger (size_at old name) (need cs) (omega (arith, fits, r.long))
  where
    larger : (n m : ℕ) → m ≤ n → n ≡ max n m
    larger n m le = omega (arith, le)

-- to change chunks in place is to let the block grow by nothing
pub kept-size : (old new : Store) (name : Name) (cs : List (Option (List ℕ))) → Edits old new name cs → Regrows old new name cs
kept-size old new name cs r = subst (Rechunks old new (slot_of name) cs) (kept-max old new name cs r) r

-- they fit into the largest one
pub regrown-small : (old new : Store) (name : Name) (cs : List (Option (List ℕ))) → Regrows old new name cs → need cs ≤ 65520
regrown-small old new name cs r = omega (arith, r.long, r.heap.0.most)
