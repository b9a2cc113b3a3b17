-- Refusals of a heap that cannot come, and those that come first.
use Rattle.std.proofs.Common.{◌≡◌, ℕ, ◌+◌, ◌≤◌, Bool, true, false, cond, List, [], ◌∷◌, ◌++◌, Option, Some, None, length, ap, sym, ◌∙◌, arith}
use Rattle.geos_terms.specs.Chunks.{chunk_of, bytes_of}
use Rattle.geos_terms.specs.declared.refusal.Refusal.{Refusal}
use Rattle.geos_terms.specs.Refusals.{first_refusal}
use Rattle.geos_terms.proofs.ChunkItems.{known-bytes}
use Rattle.lmem_heap.specs.declared.error.DeleteError.{DeleteError}
use Rattle.lmem_heap.specs.declared.error.DeleteError.TheVariants.{BadChunk, Range}
use Rattle.lmem_heap.specs.Refusals.{IsDeleteError}

-- bytes of a chunk that is there can be deleted
pub can-delete : (e : DeleteError) (cs : List (Option (List ℕ))) (c at n : ℕ) (bytes : List ℕ) → chunk_of cs c ≡ Some bytes
    → at + n ≤ length bytes → IsDeleteError e cs c at n → ⊥
can-delete BadChunk cs c at n bytes there fits none = let e : Some bytes ≡ None = sym there ∙ none in cc
can-delete Range cs c at n bytes there fits far = let e = known-bytes cs c bytes there in
    let l : length (bytes_of cs c) ≡ length bytes = ap length e in omega (arith, l, far.1, fits)

-- the first refusal stays the first, whatever tests follow
pub first-stays : (tests more : List (Bool × Refusal)) (r : Refusal) → first_refusal tests ≡ Some r → first_refusal (tests ++ more) ≡ Some r
first-stays [] more r is = absurd cc
first-stays (test ∷ tests) more r is = by test.0 (first-stays tests more r) is
  where
    by : (b : Bool) → (first_refusal tests ≡ Some r → first_refusal (tests ++ more) ≡ Some r)
        → cond b (Some test.1) (first_refusal tests) ≡ Some r → cond b (Some test.1) (first_refusal (tests ++ more)) ≡ Some r
    by true behind same = same
    by false behind same = behind same
