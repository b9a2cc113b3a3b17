-- An array that was found, of which an element gets another size.
use Rattle.std.proofs.Common.{◌≡◌, ℕ, ◌+◌, ◌<◌, ◌≤◌, List, Some, None, length, ap, sym, ◌∙◌, arith}
use Rattle.lmem_raw.specs.Bytes.{part}
use Rattle.geos_terms.specs.Block.{chunks}
use Rattle.geos_terms.specs.Chunks.{chunk_of, bytes_of, need, with_bytes, with_resized_part}
use Rattle.geos_terms.specs.Heap.{IsHeap}
use Rattle.geos_terms.specs.Refusals.{first_refusal}
use Rattle.geos_terms.specs.Arrays.{element_at, element, spelled}
use Rattle.geos_terms.specs.ArrayEdits.{resize_element, with_array}
use Rattle.geos_terms.proofs.JoinedEdits.{length-resized_part}
use Rattle.geos_terms.proofs.ChunkItems.{known-bytes, chunk-written, need-length}
use Rattle.geos_terms.proofs.ArrayTests.{array-of, resize-passes}
use Rattle.geos_terms.proofs.ArrayPlaces.{element-bounds, element-ends}
use Rattle.chunk_array.specs.declared.look.Found.{Found}
use Rattle.chunk_array.specs.declared.shape.ElementPlace.{ElementPlace}
use Rattle.chunk_array.specs.Found.{IsFound}
use Rattle.chunk_array.specs.Refits.{HasRefit, with_refit}
use Rattle.chunk_array.proofs.Rewritten.{chunk-small}
use Rattle.chunk_array.proofs.Refitting.{length-refit}
use Rattle.chunk_array.proofs.Shaped.{Holds, holds}

module _ (b : List ℕ) (c : ℕ) (found : Found) (f : IsFound b c found) (i n : ℕ) (place : ElementPlace)
    (none : found.shape.element_size ≡ 0) (known : i < found.shape.count)
    (at_index : place.index ≡ i) (begins : place.begin ≡ element_at f.shape.array i)
    (ends : place.begin + place.len ≡ element_at f.shape.array (i + 1)) where
  abbrev pub bytes : List ℕ
  bytes = part b found.at found.len

  -- the bytes with n of them in the place of the element's
  abbrev pub changed : List ℕ → List ℕ
  changed x = with_resized_part x place.begin place.len n

  h : Holds b c found f.shape.array
  h = holds b c found f

  index : i < length f.shape.array.elements
  index = omega (arith, h.shaped.count, known)

  size : place.len ≡ length (element f.shape.array i)
  size = omega (arith, begins, ends, element-ends f.shape.array i index)

  within : place.begin + place.len ≤ length bytes
  within = omega (arith, ends, (element-bounds bytes f.shape.array (i + 1) h.shaped.reads).1)

  -- no test refuses
  pub passes : first_refusal (resize_element c i n (chunks b)).refusals ≡ None
  passes = resize-passes (chunks b) c bytes f.shape.array h.there h.is i (h.shaped.size ∙ none) index

  -- the array after the call
  pub same : (resize_element c i n (chunks b)).chunks ≡ with_array (chunks b) c (with_refit f.shape.array i n)
  same = ap (λ x. with_array (chunks b) c (with_refit x i n)) (array-of (chunks b) c bytes f.shape.array h.there h.is)

  -- needs what those bytes need
  pub changed-need : need (with_bytes (chunks b) c (changed (bytes_of (chunks b) c))) ≡ need (resize_element c i n (chunks b)).chunks
  changed-need =
      let m = length-refit bytes f.shape.array i n h.shaped.reads (h.shaped.size ∙ none) index in
      ap (λ x. need (with_bytes (chunks b) c (changed x))) (known-bytes (chunks b) c bytes h.there)
      ∙ need-length (chunks b) c bytes (changed bytes) (spelled (with_refit f.shape.array i n)) h.there
      (omega (arith, length-resized_part bytes place.begin place.len n within, m, size)) ∙ sym (ap need same)

  -- those bytes, once they are made
  pub refits : (d : List ℕ) → IsHeap d → chunks d ≡ with_bytes (chunks b) c (changed (bytes_of (chunks b) c))
      → (chunk_of (chunks d) c ≡ Some (changed bytes)) × HasRefit (changed bytes) bytes f.shape.array found.shape place n
  refits d heap made =
      let there = ap (λ xs. chunk_of xs c) made ∙ chunk-written (chunks b) c bytes (changed (bytes_of (chunks b) c)) h.there
      ∙ ap (λ x. Some (changed x)) (known-bytes (chunks b) c bytes h.there) in (
        there,
        record {
          is = h.is;
          small = f.small;
          count = h.shaped.count;
          varying = h.shaped.size ∙ none;
          known = omega (arith, at_index, known);
          size = size ∙ ap (λ k. length (element f.shape.array k)) (sym at_index);
          made = ap (λ x. with_resized_part bytes x place.len n) (begins ∙ ap (element_at f.shape.array) (sym at_index));
          few = chunk-small d c (changed bytes) heap there;
        },
      )
