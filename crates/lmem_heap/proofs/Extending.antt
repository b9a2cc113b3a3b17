-- What the words of a chunk say of where it lies.
use Rattle.std.proofs.Common.{◌≡◌, ℕ, ◌+◌, ◌-◌, ◌<◌, ◌≤◌, List, length, refl, ap, ◌∙◌, arith}
use Rattle.geos_terms.specs.Bytes.{word}
use Rattle.geos_terms.specs.Chunks.{cost}
use Rattle.geos_terms.specs.Block.{entry, entries, table_end}
use Rattle.geos_terms.specs.Heap.{IsHeap, IsOffset}
use Rattle.geos_terms.proofs.Costs.{cost-least}
use Rattle.geos_terms.proofs.Entries.{told}
use Rattle.lmem_heap.specs.Packed.{chunk_end, chunk_length}
use Rattle.lmem_heap.specs.Extents.{HasExtent, IsExtent}

-- a chunk that lies after the table, and in the block
pub lies-there : (b : List ℕ) (i : ℕ) → i < entries b → 0 < chunk_length b i → table_end b + 2 ≤ entry b i
    → chunk_end b i ≤ length b → length b ≤ 65520 → HasExtent b i
lies-there b i h some low high most =
    let wide = cost-least (chunk_length b i) some in
    record {
      known = h;
      extent = record { begin = entry b i - 2; end = chunk_end b i; len = chunk_length b i };
      is = record { entry = omega arith; len = refl; end = refl; low = omega arith; high = (high, omega arith); wide = (some, refl, omega arith) };
    }

-- that of an entry of a heap
pub heap-extent : (b : List ℕ) (i : ℕ) → IsHeap b → i < entries b → IsOffset (entry b i) → HasExtent b i
heap-extent b i heap h t =
    let l = told b i heap h t in
    let n : l.n ≡ chunk_length b i = omega (arith, l.says) in
    lies-there b i h (omega (arith, l.some, n)) l.from (omega (arith, l.from, l.upto, ap cost n)) heap.0.most

-- what the code reads: the entry, and the size word before its offset
pub record Read (b : List ℕ) (i e w : ℕ) : Type 0 where
  pub size : (2 ≤ w) × (w ≤ 65520)
  pub extent : IsExtent b i (record { begin = e - 2; end = e - 2 + cost (w - 2); len = w - 2 })

pub read : (b : List ℕ) (i e w : ℕ) → HasExtent b i → e ≡ entry b i → w ≡ word b (e - 2) → Read b i e w
read b i e w x e_is w_is =
    let k = x.is in
    let back : word b (e - 2) ≡ word b (entry b i - 2) = ap (λ x. word b (x - 2)) e_is in
    let len : w - 2 ≡ x.extent.len = omega (arith, w_is, back, k.len) in
    let cost_len : cost (w - 2) ≡ cost x.extent.len = ap cost len in
    record {
      size = (omega (arith, len, k.wide), omega (arith, len, k.wide, k.high));
      extent = record {
        entry = omega (arith, e_is, k.entry);
        len = len ∙ k.len;
        end = omega (arith, e_is, k.entry, k.wide, k.end, cost_len);
        low = omega (arith, e_is, k.entry, k.low);
        high = (omega (arith, e_is, k.entry, k.wide, k.high, cost_len), omega (arith, e_is, k.entry, k.wide, k.high, cost_len));
        wide = (omega (arith, len, k.wide), refl, omega (arith, len, k.wide, cost_len));
      };
    }
