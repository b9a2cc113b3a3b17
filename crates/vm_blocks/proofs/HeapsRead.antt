-- What bytes that are read encode.
use Rattle.std.proofs.Common.{◌≡◌, ℕ, suc, ◌%◌, ◌<◌, ◌≤◌, Bool, true, false, List, [], ◌∷◌, Option, Some, None, length, refl, sym, subst, arith}
use Rattle.std.specs.Prelude.{All, ◌==◌, nat_le, if◌then◌else◌}
use Rattle.std.specs.List.{list_all}
use Rattle.std.proofs.lemmas.Bool.Decides.{nat_tests}
use Rattle.geos_terms.specs.Block.{chunks}
use Rattle.geos_terms.specs.Chunks.{need}
use Rattle.geos_terms.specs.Heap.{IsBlockSize, IsHeap}
use Rattle.geos_calls.specs.Blocks.{Heap}
use Rattle.geos_calls.specs.Given.{is_byte, is_chunk, can_hold}
use Rattle.geos_calls.specs.Legal.{AreBytes, IsChunk, IsLegalHeap}
use Rattle.geos_calls.proofs.LegalBlocks.{new_heap-legal}
use Rattle.geos_calls.proofs.LegalGiven.{can_hold-legal}
use Rattle.geos_calls.proofs.LegalHeaps.{heap-legal}
use Rattle.geos_terms.proofs.HeapTests.{and-true}
use Rattle.vm_blocks.specs.Spelled.{heap_in, heap_read, empty_heap}

-- A test of a list holds where it holds of each item

tested : {X : Type 0} (test : X → Bool) (P : X → Type 0) → ((x : X) → P x → test x ≡ true) → (xs : List X) → All P xs → list_all test xs ≡ true
tested test P each [] all = refl
tested test P each (x ∷ xs) all = and-true (test x) (list_all test xs) (each x (all 0 x (omega arith)))
    (tested test P each xs (λ k d l. all (suc k) d (omega (arith, l))))

byte-test : (b : ℕ) → b < 256 → is_byte b ≡ true
byte-test b l = grind (arith, nat_tests)

chunk-test : (c : Option (List ℕ)) → IsChunk c → is_chunk c ≡ true
chunk-test None is = refl
chunk-test (Some bytes) is = tested is_byte (λ b. b < 256) byte-test bytes is

least-test : (n m : ℕ) → n ≤ m → nat_le n m ≡ true
least-test n m l = grind (arith, nat_tests)

same-test : (n m : ℕ) → n ≡ m → (n == m) ≡ true
same-test n m e = grind (arith, nat_tests)

-- a block can hold what a legal heap of its size holds
pub can-hold : (heap : Heap) → IsLegalHeap heap → can_hold heap.size heap.chunks ≡ true
can-hold heap legal =
    let cs = heap.chunks in
    let are = legal.chunks in
    and-true _ _ (and-true _ _ (and-true _ _ (tested is_chunk IsChunk chunk-test cs are.bytes) (same-test (length cs % 2) 0 are.pairs))
    (least-test 2 (length cs) are.some)) (least-test (need cs) heap.size legal.fits)

-- an empty heap of a legal size is legal
empty-legal : (size : ℕ) → IsBlockSize size → IsLegalHeap (empty_heap size)
empty-legal size is =
    let fits = new_heap-legal.fits in
    let least = is.0 in
    record { chunks = new_heap-legal.chunks; least = is.0; most = is.1; sixteens = is.2; fits = omega (arith, fits, least) }

-- what is read of a block of a legal size is legal
pub read-legal : (size : ℕ) (bytes : List ℕ) → IsBlockSize size → IsLegalHeap (heap_read size bytes)
read-legal size bytes is = on (can_hold size (chunks bytes)) refl
  where
    on : (b : Bool) → can_hold size (chunks bytes) ≡ b → IsLegalHeap (if b then record { chunks = chunks bytes; size = size } else empty_heap size)
    on false e = empty-legal size is
    on true e = let fits = can_hold-legal size (chunks bytes) e in
        record { chunks = fits.0; least = is.0; most = is.1; sixteens = is.2; fits = fits.1 }

pub read-size : (size : ℕ) (bytes : List ℕ) → (heap_read size bytes).size ≡ size
read-size size bytes = on (can_hold size (chunks bytes))
  where
    on : (b : Bool) → (let h : Heap = if b then record { chunks = chunks bytes; size = size } else empty_heap size in h).size ≡ size
    on true = refl
    on false = refl

-- if bytes encode a legal heap, this heap is read
pub read-spelled : (size : ℕ) (bytes : List ℕ) → length bytes ≡ size → IsLegalHeap (heap_in bytes) → heap_read size bytes ≡ heap_in bytes
read-spelled size bytes long legal =
    let holds : can_hold size (chunks bytes) ≡ true = subst (λ n. can_hold n (chunks bytes) ≡ true) long (can-hold (heap_in bytes) legal) in
    let back : size ≡ length bytes = sym long in
    rw holds (λ k. record { chunks = chunks bytes; size = back k })

-- the bytes of a heap encode a legal heap
pub spelled-legal : (bytes : List ℕ) → IsHeap bytes → AreBytes bytes → IsLegalHeap (heap_in bytes)
spelled-legal bytes heap are = heap-legal bytes heap are
