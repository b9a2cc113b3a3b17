-- The bytes of a heap represent a legal heap.
use Rattle.std.proofs.Common.{◌≡◌, ℕ, ◌%◌, ◌≤◌, List, Option, Some, None, length, get_or, arith}
use Rattle.std.specs.Prelude.{All, option_map}
use Rattle.std.specs.List.{range_with_len}
use Rattle.std.proofs.lemmas.List.Elements.{All-map}
use Rattle.geos_terms.specs.Block.{Place, entry, entries, place_at, bytes_at, chunk_at, chunks}
use Rattle.geos_terms.specs.Heap.{IsHeap}
use Rattle.geos_calls.specs.Legal.{AreBytes, IsChunk, IsLegalHeap}
use Rattle.geos_terms.proofs.Fits.{need-fits}
use Rattle.geos_terms.proofs.Sums.{count-chunks}
use Rattle.geos_calls.proofs.LegalBytes.{bytes-part}

placed-legal : (b : List ℕ) (place : Option Place) → AreBytes b → IsChunk (option_map (bytes_at b) place)
placed-legal b None h = tt
placed-legal b (Some place) h = bytes-part b place.at place.len h

-- the bytes of a block represent chunks of bytes
pub chunks-legal : (b : List ℕ) → AreBytes b → All IsChunk (chunks b)
chunks-legal b h =
    let spelled : All (λ i. IsChunk (chunk_at b (entry b i))) (range_with_len 0 (entries b)) =
    λ k d l. placed-legal b (place_at b (entry b (get_or (range_with_len 0 (entries b)) k d))) h in
    All-map IsChunk (λ i. chunk_at b (entry b i)) (range_with_len 0 (entries b)) spelled

pub heap-legal : (b : List ℕ) → IsHeap b → AreBytes b → IsLegalHeap (record { chunks = chunks b; size = length b })
heap-legal b heap h = record {
  chunks = record { bytes = chunks-legal b h; pairs = even (count-chunks b) heap.0.pairs; some = two (count-chunks b) heap.0.some };
  least = heap.0.least;
  most = heap.0.most;
  sixteens = heap.0.sixteens;
  fits = need-fits b heap;
}
  where
    even : length (chunks b) ≡ entries b → entries b % 2 ≡ 0 → length (chunks b) % 2 ≡ 0
    even n h = omega arith

    two : length (chunks b) ≡ entries b → 2 ≤ entries b → 2 ≤ length (chunks b)
    two n h = omega arith
