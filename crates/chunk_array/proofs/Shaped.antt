-- What the shape of an array tells of it.
use Rattle.std.proofs.Common.{◌≡◌, ◌≢◌, ℕ, ◌+◌, ◌*◌, ◌<◌, ◌≤◌, List, Some, length, get_or, ap, sym, ◌∙◌, subst, arith}
use Rattle.lmem_raw.specs.Bytes.{part}
use Rattle.geos_terms.specs.Bytes.{word}
use Rattle.geos_terms.specs.Block.{chunks}
use Rattle.geos_terms.specs.Chunks.{chunk_of}
use Rattle.geos_terms.proofs.Resizes.{length-part}
use Rattle.geos_terms.specs.Arrays.{Array, arr, element_at}
use Rattle.geos_terms.proofs.ArraySpells.{first-varying}
use Rattle.geos_terms.proofs.ArrayReads.{Reads, reads}
use Rattle.geos_terms.proofs.ArrayPlaces.{same-array, element-bounds}
use Rattle.chunk_array.specs.declared.shape.Shape.{Shape}
use Rattle.chunk_array.specs.declared.look.Found.{Found}
use Rattle.chunk_array.specs.Shapes.{HasShape}
use Rattle.chunk_array.specs.Found.{IsFound}

-- the array of such a shape
pub record Shaped (bytes : List ℕ) (shape : Shape) (a : Array) : Type 0 where
  pub reads : Reads bytes a
  pub count : length a.elements ≡ shape.count
  pub size : a.element_size ≡ shape.element_size

pub shaped : (bytes : List ℕ) (shape : Shape) (a : Array) → ((k : ℕ) → get_or bytes k 0 < 256) → HasShape bytes shape
    → arr bytes ≡ Some a → Shaped bytes shape a
shaped bytes shape a small h is =
    let same = same-array bytes h.array a h.is is in
    subst (λ (x : Array). Shaped bytes shape x) same (record { reads = reads bytes h.array small h.is; count = h.count; size = h.size })

-- where an element begins: by its index where elements have one size
pub start-fixed : (bytes : List ℕ) (shape : Shape) (a : Array) (i : ℕ) → Shaped bytes shape a → shape.element_size ≢ 0
    → i ≤ shape.count → 8 + i * shape.element_size ≡ element_at a i
start-fixed bytes shape a i s ne h =
    let e = s.reads.equal (λ z. ne (sym s.size ∙ z)) i (omega (arith, s.count)) in ap (λ k. 8 + i * k) (sym s.size) ∙ sym e

-- by its offset where sizes vary
pub start-varying : (bytes : List ℕ) (shape : Shape) (a : Array) (i : ℕ) → Shaped bytes shape a → shape.element_size ≡ 0
    → i < shape.count → word bytes (8 + 2 * i) ≡ element_at a i
start-varying bytes shape a i s none h = s.reads.spells.offsets (s.size ∙ none) i (omega (arith, s.count))

-- and at the count at the end
pub start-end : (bytes : List ℕ) (shape : Shape) (a : Array) (i : ℕ) → Shaped bytes shape a → i ≡ shape.count → length bytes ≡ element_at a i
start-end bytes shape a i s e = sym s.reads.end ∙ ap (element_at a) (s.count ∙ sym e)

-- the table of offsets lies in the bytes
pub table-fits : (bytes : List ℕ) (shape : Shape) (a : Array) → Shaped bytes shape a → shape.element_size ≡ 0 → 8 + 2 * shape.count ≤ length bytes
table-fits bytes shape a s none = let f = first-varying a (s.size ∙ none) in omega (arith, f, s.reads.spells.fits, s.count)

-- an offset where the bytes' array has an element begin
pub record Starts (bytes : List ℕ) (i at : ℕ) : Type 0 where
  pub start : (a : Array) → arr bytes ≡ Some a → at ≡ element_at a i
  pub within : (8 ≤ at) × (at ≤ length bytes)

pub starts : (bytes : List ℕ) (shape : Shape) (i at : ℕ) → ((k : ℕ) → get_or bytes k 0 < 256) → HasShape bytes shape
    → ((a : Array) → Shaped bytes shape a → at ≡ element_at a i) → Starts bytes i at
starts bytes shape i at small h begins =
    let s = shaped bytes shape h.array small h h.is in
    let l = element-bounds bytes h.array i s.reads in
    let e = begins h.array s in
    record { start = (λ a is. begins a (shaped bytes shape a small h is)); within = (omega (arith, e, l.0), omega (arith, e, l.1)) }

-- an array that was found
pub record Holds (b : List ℕ) (c : ℕ) (found : Found) (a : Array) : Type 0 where
  pub shaped : Shaped (part b found.at found.len) found.shape a
  pub is : arr (part b found.at found.len) ≡ Some a
  pub there : chunk_of (chunks b) c ≡ Some (part b found.at found.len)
  pub long : length (part b found.at found.len) ≡ found.len

pub holds : (b : List ℕ) (c : ℕ) (found : Found) → (f : IsFound b c found) → Holds b c found f.shape.array
holds b c found f =
    let bytes = part b found.at found.len in
    record {
      shaped = shaped bytes found.shape f.shape.array f.small f.shape f.shape.is;
      is = f.shape.is;
      there =
          f.bytes;
      long = length-part b found.at found.len f.within;
    }

-- an array has its header's bytes at least
pub least : (b : List ℕ) (at len : ℕ) (shape : Shape) → ((k : ℕ) → get_or (part b at len) k 0 < 256) → at + len ≤ length b
    → HasShape (part b at len) shape → 8 ≤ len
least b at len shape small within h =
    let bytes = part b at len in
    let s = shaped bytes shape h.array small h h.is in
    let l = element-bounds bytes h.array 0 s.reads in omega (arith, l.0, l.1, length-part b at len within)
