-- An array that was found, of which an element is to go.
use Rattle.std.proofs.Common.{◌≡◌, ℕ, ◌+◌, List, ap, sym, ◌∙◌, arith}
use Rattle.lmem_raw.specs.Bytes.{part}
use Rattle.geos_terms.specs.Heap.{IsHeap}
use Rattle.geos_terms.specs.Arrays.{element_at}
use Rattle.chunk_array.specs.declared.look.Found.{Found}
use Rattle.chunk_array.specs.declared.shape.ElementPlace.{ElementPlace}
use Rattle.chunk_array.specs.Found.{HasIndex}
use Rattle.chunk_array.specs.Removals.{HasPart}
use Rattle.chunk_array.proofs.Rewritten.{chunk-small}
use Rattle.chunk_array.proofs.Shaped.{holds}

pub parted : (b : List ℕ) (c i : ℕ) (found : Found) (f : HasIndex b c i found) (place : ElementPlace) → IsHeap b
    → place.index ≡ i → place.begin ≡ element_at f.is.shape.array i
    → place.begin + place.len ≡ element_at f.is.shape.array (i + 1) → HasPart (part b found.at found.len) f.is.shape.array found.shape place
parted b c i found f place heap same begins ends =
    let h = holds b c found f.is in
    record {
      is = h.is;
      small = f.is.small;
      count = h.shaped.count;
      size = h.shaped.size;
      known = omega (arith, same, f.known);
      begins = begins ∙ ap (element_at f.is.shape.array) (sym same);
      ends = ends ∙ ap (λ k. element_at f.is.shape.array (k + 1)) (sym same);
      few = chunk-small b c (part b found.at found.len) heap h.there;
    }
