-- Bytes that move within a chunk.
use Rattle.std.proofs.Common.{◌≡◌, ℕ, ◌+◌, ◌-◌, ◌<◌, ◌≤◌, List, Some, length, replicate, set, ap, sym, ◌∙◌, arith}
use Rattle.std.proofs.lemmas.List.{length-replicate}
use Rattle.lmem_raw.specs.Bytes.{part, with_part}
use Rattle.geos_terms.specs.Chunks.{entry_bytes}
use Rattle.geos_terms.specs.Block.{Place, entry, entries, chunks, handle_word, place_at, bytes_at}
use Rattle.geos_terms.specs.Heap.{IsHeap}
use Rattle.geos_terms.proofs.Places.{placed-bytes, placed-length}
use Rattle.geos_terms.proofs.Resizes.{length-part}
use Rattle.geos_terms.proofs.Lowest.{set-twice}
use Rattle.geos_terms.proofs.Entered.{WritesEntry, writes-entry, part-part}

-- a heap with other bytes as the chunk of an entry
pub record HasBytes (b d : List ℕ) (i : ℕ) (bytes : List ℕ) : Type 0 where
  pub heap : IsHeap d
  pub handle : handle_word d ≡ handle_word b
  pub chunks : chunks d ≡ set (chunks b) i (Some bytes)

-- bytes of a chunk move to another offset in it
moved-within : (b d : List ℕ) (i : ℕ) (p : Place) (from to m source target : ℕ) → IsHeap b → i < entries b
    → place_at b (entry b i) ≡ Some p → p.at + p.len ≤ length b → from + m ≤ p.len → to + m ≤ p.len →
    source ≡ p.at + from → target ≡ p.at + to → d ≡ with_part b target (part b source m)
    → WritesEntry b d i p (with_part (bytes_at b p) to (part (bytes_at b p) from m))
moved-within b d i p from to m source target heap h is fits room_from room_to source_is target_is made =
    let bs = bytes_at b p in
    let long = placed-length b p fits in
    let ws = part bs from m in
    let lw : length ws ≡ m = length-part bs from m (omega arith) in
    let same : part b source m ≡ ws = ap (λ x. part b x m) source_is ∙ sym (part-part b p.at p.len from m room_from fits) in
    writes-entry b d i p to ws heap h is (omega arith) (made ∙ ap (λ x. with_part b x (part b source m)) target_is
    ∙ ap (λ x. with_part b (p.at + to) x) same)

-- bytes move up, and zeros replace them where they began
pub opened : (b d d2 : List ℕ) (i : ℕ) (p : Place) (at n begin m : ℕ) → IsHeap b → i < entries b → place_at b (entry b i) ≡ Some p
    → p.at + p.len ≤ length b → at + n ≤ p.len → begin ≡ p.at + at → m ≡ p.len - (at + n) →
    d ≡ with_part b (begin + n) (part b begin m) → d2 ≡ with_part d begin (replicate n 0) →
    HasBytes b d2 i (let bytes = entry_bytes (chunks b) i in
    with_part (with_part bytes (at + n) (part bytes at (length bytes - (at + n)))) at (replicate n 0))
opened b d d2 i p at n begin m heap h is fits room begin_is m_is made made2 =
    let bs = bytes_at b p in
    let long = placed-length b p fits in
    let zs : List ℕ = replicate n 0 in
    let lz = length-replicate {A = ℕ} n 0 in
    let one = moved-within b d i p at (at + n) m begin (begin + n) heap h is fits (omega arith) (omega arith) begin_is (omega arith) made in
    let two = writes-entry d d2 i p at zs one.heap (omega (arith, one.count)) one.place (omega (arith, lz))
    (made2 ∙ ap (λ x. with_part d x zs) begin_is) in
    let m_len : m ≡ length bs - (at + n) = omega arith in
    record {
      heap = two.heap;
      handle = two.handle ∙ one.handle;
      chunks = two.chunks ∙ ap (λ xs. set xs i (Some (with_part (bytes_at d p) at zs))) one.chunks
          ∙ set-twice (chunks b) i (Some (with_part bs (at + n) (part bs at m))) (Some (with_part (bytes_at d p) at zs))
          ∙ ap (λ x. set (chunks b) i (Some (with_part x at zs))) one.there
          ∙ ap (λ x. set (chunks b) i (Some (with_part (with_part bs (at + n) (part bs at x)) at zs))) m_len
          ∙ ap (λ x. set (chunks b) i (Some (with_part (with_part x (at + n) (part x at (length x - (at + n)))) at zs)))
          (sym (placed-bytes b i p h is));
    }

-- bytes move down
pub closed : (b d : List ℕ) (i : ℕ) (p : Place) (at n begin m : ℕ) → IsHeap b → i < entries b → place_at b (entry b i) ≡ Some p
    → p.at + p.len ≤ length b → at + n ≤ p.len → begin ≡ p.at + at → m ≡ p.len - (at + n) →
    d ≡ with_part b begin (part b (begin + n) m) → HasBytes b d i (let bytes = entry_bytes (chunks b) i in
    with_part bytes at (part bytes (at + n) (length bytes - (at + n))))
closed b d i p at n begin m heap h is fits room begin_is m_is made =
    let bs = bytes_at b p in
    let long = placed-length b p fits in
    let one = moved-within b d i p (at + n) at m (begin + n) begin heap h is fits (omega arith) (omega arith) (omega arith) begin_is made in
    let m_len : m ≡ length bs - (at + n) = omega arith in
    record {
      heap = one.heap;
      handle = one.handle;
      chunks = one.chunks ∙ ap (λ x. set (chunks b) i (Some (with_part bs at (part bs (at + n) x)))) m_len
          ∙ ap (λ x. set (chunks b) i (Some (with_part x at (part x (at + n) (length x - (at + n)))))) (sym (placed-bytes b i p h is));
    }
