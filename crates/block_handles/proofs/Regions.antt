-- The region in which blocks lie, as one list of bytes.
use Rattle.std.proofs.Common.{◌≡◌, ℕ, zero, suc, List, [], ◌∷◌, length, Option, Some, None, slice_index_or, refl, sym, ap}
use Rattle.lmem_raw.specs.Bytes.{part, with_part}
use Rattle.block_handles.specs.declared.table.Entry.{Entry}
use Rattle.block_handles.specs.Store.{bytes_in, bytes_of, place_of, size_of}
use Rattle.block_handles.specs.declared.arena.Limits.{Limits}
use Rattle.block_handles.specs.Change.{with_limits}
use Rattle.block_handles.specs.Layout.{IsRegion}
use Rattle.block_handles.specs.View.{block_in, store_in, place_in, Lies}
use Rattle.block_handles.proofs.Views.{at_slot, place_slot, length-part}

-- an entry's block has the bytes from its place on
entry-part : (region : List ℕ) (o : Option Entry) → Lies region o → bytes_in (block_in region o) ≡ part region
    (place_in o) (length (bytes_in (block_in region o)))
entry-part region None lies = refl
entry-part region (Some e) lies = ap (part region e.place) (sym (length-part region e.place e.size lies))

-- the region of a view
pub region-of : (limits : Limits) (region : List ℕ) (table : List (Option Entry)) → ((slot : ℕ) → Lies region (slice_index_or table slot None))
    → IsRegion (with_limits (store_in region table) limits) region
region-of limits region table lies = record { long = refl; blocks = blocks }
  where
    blocks : (slot : ℕ) → bytes_of (store_in region table) slot ≡ part region (place_of (store_in region table) slot)
        (size_of (store_in region table) slot)
    blocks slot = rw (at_slot region table slot, place_slot region table slot) (entry-part region (slice_index_or table slot None) (lies slot))

-- bytes that are written to their own place change nothing
pub part-back : (bs : List ℕ) (at n : ℕ) → with_part bs at (part bs at n) ≡ bs
part-back [] at n = refl
part-back (b ∷ bs) zero zero = refl
part-back (b ∷ bs) zero (suc n) = ap (λ xs. b ∷ xs) (part-back bs zero n)
part-back (b ∷ bs) (suc at) n = ap (λ xs. b ∷ xs) (part-back bs at n)
