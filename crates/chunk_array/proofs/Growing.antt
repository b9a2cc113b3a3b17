-- What an array needs with one element more.
use Rattle.std.proofs.Common.{◌≡◌, ℕ, ◌+◌, ◌<◌, ◌≤◌, List, Some, length, refl, ap, sym, ◌∙◌, arith}
use Rattle.lmem_raw.specs.Bytes.{part}
use Rattle.geos_terms.specs.Block.{chunks}
use Rattle.geos_terms.specs.Chunks.{chunk_of, bytes_of, need, with_bytes, with_inserted, with_zeros}
use Rattle.geos_terms.specs.Heap.{IsHeap}
use Rattle.geos_terms.specs.Arrays.{element_at, spelled, with_element}
use Rattle.geos_terms.specs.ArrayEdits.{array_of, with_array}
use Rattle.geos_terms.proofs.Resizes.{length-with_zeros}
use Rattle.geos_terms.proofs.ChunkItems.{known-bytes, chunk-written, need-length, need-least}
use Rattle.geos_terms.proofs.ArrayTests.{array-of}
use Rattle.geos_terms.proofs.ArrayPlaces.{element-bounds}
use Rattle.chunk_array.specs.declared.look.Found.{Found}
use Rattle.chunk_array.specs.Found.{IsFound}
use Rattle.chunk_array.specs.Insertions.{room_of, HasRoom}
use Rattle.chunk_array.proofs.Rewritten.{chunk-small}
use Rattle.chunk_array.proofs.Roomy.{length-room}
use Rattle.chunk_array.proofs.Shaped.{Holds, holds}

module _ (b : List ℕ) (c : ℕ) (found : Found) (f : IsFound b c found) (i at n : ℕ) (known : i ≤ found.shape.count)
    (is : at ≡ element_at f.shape.array i) where
  abbrev pub bytes : List ℕ
  bytes = part b found.at found.len

  abbrev pub room : ℕ
  room = room_of found.shape.element_size n

  h : Holds b c found f.shape.array
  h = holds b c found f

  -- the array after the call
  pub grown : with_array (chunks b) c (with_element (array_of (chunks b) c) i n) ≡ with_array (chunks b) c (with_element f.shape.array i n)
  grown = ap (λ x. with_array (chunks b) c (with_element x i n)) (array-of (chunks b) c bytes f.shape.array h.there h.is)

  long : length (spelled (with_element f.shape.array i n)) ≡ length bytes + room
  long = length-room bytes f.shape.array found.shape i n h.shaped.reads h.shaped.count h.shaped.size known

  within : at ≤ length bytes
  within = omega (arith, is, (element-bounds bytes f.shape.array i h.shaped.reads).1)

  -- needs what the bytes with room need
  pub grown-need : need (with_inserted (chunks b) c at room) ≡ need (with_array (chunks b) c (with_element (array_of (chunks b) c) i n))
  grown-need =
      ap (λ x. need (with_bytes (chunks b) c (with_zeros x at room))) (known-bytes (chunks b) c bytes h.there)
      ∙ need-length (chunks b) c bytes (with_zeros bytes at room) (spelled (with_element f.shape.array i n)) h.there
      (length-with_zeros bytes at room within ∙ sym long)
      ∙ sym (ap need grown)

  -- and at least the room
  pub grown-big : 65535 < room → 65520 < need (with_array (chunks b) c (with_element (array_of (chunks b) c) i n))
  grown-big big = let e = ap need grown in
      omega (arith, e, need-least (chunks b) c bytes (spelled (with_element f.shape.array i n)) h.there, long, big)

  -- the bytes with room, after they are made
  pub roomy : (d : List ℕ) → IsHeap d → chunks d ≡ with_inserted (chunks b) c at room
      → (chunk_of (chunks d) c ≡ Some (with_zeros bytes at room)) × HasRoom (with_zeros bytes at room) bytes
      f.shape.array found.shape (record { index = i; begin = at; len = n })
  roomy d heap made =
      let there = ap (λ xs. chunk_of xs c) made ∙ chunk-written (chunks b) c bytes (with_zeros (bytes_of (chunks b) c) at room) h.there
      ∙ ap (λ x. Some (with_zeros x at room)) (known-bytes (chunks b) c bytes h.there) in (
        there,
        record {
          is = h.is;
          small = f.small;
          count = h.shaped.count;
          size = h.shaped.size;
          known = known;
          begins =
              is;
          made = refl;
          few = chunk-small d c (with_zeros bytes at room) heap there;
        },
      )
