use Rattle.std.proofs.Common.{◌≡◌, ℕ, ◌+◌, ◌*◌, ◌/◌, ◌%◌, ◌<◌, ◌≤◌, List, None, inl, inr, arith}
use Rattle.geos_terms.proofs.Entries.{chunk-low, chunk-odd, chunk-past}
use Rattle.geos_terms.specs.Block.{chunks, entries}
use Rattle.geos_terms.specs.Chunks.{chunk_of}
use Rattle.geos_terms.specs.Heap.{IsHeap}
use Rattle.std.proofs.lemmas.Bool.{cases_lt}
use Rattle.lmem_block.proofs.look.index_of.Goals as goal

-- past the table, below it, where the difference wraps, or odd, where the lowest bit comes first
none-outside : (b : List ℕ) (c i : ℕ) → c < 65536 → i ≡ (c + 65520) % 65536 / 2 + (c + 65520) % 65536 % 2 * 32768 → entries b ≤ i
    → chunk_of (chunks b) c ≡ None
none-outside b c i small is past = elim (cases_lt c 16) as (λ _. chunk_of (chunks b) c ≡ None) [
  | inl low ↦ chunk-low b c low
  | inr within ↦ (elim (cases_lt 0 (c % 2)) as (λ _. chunk_of (chunks b) c ≡ None) [
    | inl odd ↦ chunk-odd b c (λ even. omega (arith, odd, even))
    | inr even ↦ chunk-past b c (omega (arith, small, is, past, within, even))
  ])
]

pub returns-then-i-entries-clause-none : goal.returns-then-i-entries-clause-none
returns-then-i-entries-clause-none c = none-outside c.args.block.now c.args.chunk c.turned-i.result (omega (arith, c.ranges.chunk))
    (omega (arith, c.turned-i.ensures)) (omega (arith, c.if-i-entries.true, c.entries.ensures.value))

-- the entry of a handle whose turned difference is within the table
handle-within : (b : List ℕ) (c i : ℕ) → IsHeap b → c < 65536 → i ≡ (c + 65520) % 65536 / 2 + (c + 65520) % 65536 % 2 * 32768
    → i < entries b → c ≡ 16 + 2 * i
handle-within b c i heap small is known = omega (arith, heap.0.fits, heap.0.most, small, is, known)
