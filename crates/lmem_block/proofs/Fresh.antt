-- A new block.
use Rattle.std.proofs.Common.{◌≡◌, ℕ, zero, suc, ◌+◌, ◌-◌, ◌*◌, ◌<◌, ◌≤◌, ◌%◌, List, [], ◌∷◌, None, map, length, ap, sym, ◌∙◌, arith}
use Rattle.std.specs.List.{range_with_len}
use Rattle.geos_terms.proofs.Entries.{chunk-none}
use Rattle.geos_terms.specs.Block.{table_end, entry, entries, chunk_at, chunks}
use Rattle.geos_terms.specs.Bytes.{word, AreWords}
use Rattle.geos_terms.specs.Heap.{IsHeap, Free, IsOffset}

none_told : (b : List ℕ) → entries b ≡ 2 → word b 16 ≡ 0 → word b 18 ≡ 0 → (i : ℕ) → i < entries b → IsOffset (entry b i) → ⊥
none_told b n e f zero h t = t.0 e
none_told b n e f (suc zero) h t = t.0 f
none_told b n e f (suc (suc i)) h t = absurd (omega arith)

pub fresh-heap : (b : List ℕ) (h n : ℕ) → length b ≡ n → 64 ≤ n → n ≤ 65520 → n % 16 ≡ 0 →
    AreWords b 0 (h ∷ 16 ∷ 0 ∷ 0 ∷ n ∷ 2 ∷ 20 ∷ (n - 20) ∷ 0 ∷ 0 ∷ (n - 20) ∷ 0 ∷ []) → IsHeap b
fresh-heap b h n long least most sixteens w =
    let w2 : word b 2 ≡ 16 = w.1.0 in
    let w4 : word b 4 ≡ 0 = w.1.1.0 in
    let w6 : word b 6 ≡ 0 = w.1.1.1.0 in
    let w8 : word b 8 ≡ n = w.1.1.1.1.0 in
    let w10 : entries b ≡ 2 = w.1.1.1.1.1.0 in
    let w12 : word b 12 ≡ 20 = w.1.1.1.1.1.1.0 in
    let w14 : word b 14 ≡ n - 20 = w.1.1.1.1.1.1.1.0 in
    let w16 : word b 16 ≡ 0 = w.1.1.1.1.1.1.1.1.0 in
    let w18 : word b 18 ≡ 0 = w.1.1.1.1.1.1.1.1.1.0 in
    let w20 : word b 20 ≡ n - 20 = w.1.1.1.1.1.1.1.1.1.1.0 in
    let w22 : word b 22 ≡ 0 = w.1.1.1.1.1.1.1.1.1.1.1.0 in
    let start : table_end b ≡ 20 = ap (λ k. 16 + 2 * k) w10 in
    let at20 : word b (table_end b) ≡ n - 20 = ap (word b) start ∙ w20 in
    let at22 : word b (table_end b + 2) ≡ 0 = ap (λ k. word b (k + 2)) start ∙ w22 in (
      record {
        table = w2;
        flags = w4;
        kind = w6;
        size = w8 ∙ sym long;
        least = omega arith;
        most = omega arith;
        sixteens = ap (λ k. k % 16) long ∙ sixteens;
        pairs = ap (λ k. k % 2) w10;
        some = omega arith;
        fits = omega arith;
      },
      (
        Free (n - 20) ∷ [],
        record {
          tiles = (omega arith, omega arith, w12 ∙ sym start, at20, (λ e. absurd (omega arith)), (omega arith, at22));
          all = none_told b w10 w16 w18;
          total = w14 ∙ omega arith;
        },
      ),
    )

pub fresh-chunks : (b : List ℕ) (h n : ℕ) → AreWords b 0 (h ∷ 16 ∷ 0 ∷ 0 ∷ n ∷ 2 ∷ 20 ∷ (n - 20) ∷ 0 ∷ 0 ∷ (n - 20) ∷ 0 ∷ [])
    → chunks b ≡ None ∷ None ∷ []
fresh-chunks b h n w =
    let w10 : entries b ≡ 2 = w.1.1.1.1.1.0 in
    let w16 : word b 16 ≡ 0 = w.1.1.1.1.1.1.1.1.0 in
    let w18 : word b 18 ≡ 0 = w.1.1.1.1.1.1.1.1.1.0 in
    ap (λ m. map (λ i. chunk_at b (entry b i)) (range_with_len 0 m)) w10 ∙ ap (λ x. x ∷ chunk_at b (word b 18) ∷ []) (chunk-none b (word b 16) w16)
    ∙ ap (λ x. None ∷ x ∷ []) (chunk-none b (word b 18) w18)
