-- A new value for an entry without a chunk: 0 for 0xFFFF, or 0xFFFF for 0.
use Rattle.std.proofs.Common.{◌≡◌, ◌≢◌, ℕ, ◌+◌, ◌*◌, ◌<◌, ◌≤◌, List, Option, Some, None, length, set, get_or, replicate, refl, ap, sym, ◌∙◌, subst, inl, inr, arith}
use Rattle.std.proofs.lemmas.Bool.{cases_eq, cases_lt}
use Rattle.geos_terms.specs.Bytes.{word, with_word, IsShifted}
use Rattle.geos_terms.specs.Block.{entry, entries, table_end, chunk_at, chunks, first_free, handle_word}
use Rattle.geos_terms.specs.Heap.{Tiles, IsOffset, IsHeap}
use Rattle.geos_terms.proofs.Words.{word-same, word-other, length-with_word, byte-other}
use Rattle.geos_terms.proofs.Entries.{chunk-none, chunk-nothing, told}
use Rattle.geos_terms.proofs.Moves.{tiles-kept}
use Rattle.geos_terms.proofs.Tables.{chunks-set, chunk-kept}
use Rattle.geos_terms.proofs.Headers.{same-header}

-- what such a write leaves
pub record EntersHeap (b c : List ℕ) (i e : ℕ) (chunk : Option (List ℕ)) : Type 0 where
  pub heap : IsHeap c
  pub chunks : chunks c ≡ set (chunks b) i chunk
  pub handle : handle_word c ≡ handle_word b

enters : (b : List ℕ) (i e : ℕ) (chunk : Option (List ℕ)) → IsHeap b → i < entries b → (IsOffset (entry b i) → ⊥)
    → e < 65536 → (IsOffset e → ⊥) → ((c : List ℕ) → chunk_at c e ≡ chunk) → EntersHeap b (with_word b (16 + 2 * i) e) i e chunk
enters b i e chunk heap h silent small silent' is =
    let c = with_word b (16 + 2 * i) e in
    let long = length-with_word b (16 + 2 * i) e in
    let word_head : (k : ℕ) → k + 2 ≤ 16 → word c k ≡ word b k = (λ k g. word-other b (16 + 2 * i) e k (inl (omega arith))) in
    let n : entries c ≡ entries b = word_head 10 (omega arith) in
    let first : first_free b ≡ first_free c = sym (word_head 12 (omega arith)) in
    let here : entry c i ≡ e = word-same b (16 + 2 * i) e small (omega arith) in
    let other : (j : ℕ) → j ≢ i → entry c j ≡ entry b j = (λ j ne. elim (cases_lt j i) [
      | inl a ↦ word-other b (16 + 2 * i) e (16 + 2 * j) (inl (omega arith))
      | inr a ↦ word-other b (16 + 2 * i) e (16 + 2 * j) (inr (omega arith))
    ]) in
    let kept : IsShifted b c 0 0 (table_end b) (length b) = (λ j k q g r. let s : j ≡ k = omega arith in
    ap (λ x. get_or c x 0) s ∙ byte-other b (16 + 2 * i) e k (inr (omega arith))) in
    let apart : (j : ℕ) → table_end b + 2 ≤ entry b j → entry b j < length b
    → j ≢ i = (λ j g r q. let t : IsOffset (entry b j) = ((λ z. absurd (omega arith)), (λ z. absurd (omega arith))) in
    silent (subst (λ (x : ℕ). IsOffset (entry b x)) q t)) in
    let start : table_end b ≡ table_end c = ap (λ x. 16 + 2 * x) (sym n) in
    record {
      heap = (
        same-header b c heap.0 long (λ k g. byte-other b (16 + 2 * i) e k (inl (omega arith))),
        (
          heap.1.0,
          record {
            tiles = subst (λ (x : ℕ). Tiles c (table_end c) (first_free c) heap.1.0 x 0) (sym long)
                (subst (λ (x : ℕ). Tiles c (table_end c) x heap.1.0 (length b) 0) first
                (subst (λ (x : ℕ). Tiles c x (first_free b) heap.1.0 (length b) 0) start
                (tiles-kept b c (table_end b) (first_free b) heap.1.0 (length b) 0 heap.1.1.tiles kept (omega (arith, n))
                (λ j l g r. other j (apart j g r)))));
            all = (λ j l t. elim (cases_eq j i) [
              | inl q ↦ absurd (silent' (subst (λ (x : ℕ). IsOffset x) (ap (λ x. entry c x) q ∙ here) t))
              | inr ne ↦ (heap.1.1.all j (omega (arith, n)) (subst (λ (x : ℕ). IsOffset x) (other j ne) t))
            ]);
            total = word_head 14 (omega arith) ∙ heap.1.1.total;
          },
        ),
      );
      chunks = chunks-set b c i chunk n h (ap (chunk_at c) here ∙ is c)
          (λ j l ne. chunk-kept b c j (table_end b) (length b) (omega arith) (omega (arith, long)) (other j ne) (told b j heap l) kept);
      handle = word_head 0 (omega arith);
    }

-- a chunk of no byte goes
pub nothing-goes : (b c : List ℕ) (i : ℕ) → IsHeap b → i < entries b → entry b i ≡ 65535 → c ≡ with_word b (16 + 2 * i) 0 → EntersHeap b c i 0 None
nothing-goes b c i p h is made = subst (λ (x : List ℕ). EntersHeap b x i 0 None) (sym made)
    (enters b i 0 None p h (λ t. t.1 is) (omega arith) (λ t. t.0 refl) (λ x. chunk-none x 0 refl))

-- a chunk of no byte comes
pub nothing-comes : (b c : List ℕ) (i : ℕ) → IsHeap b → i < entries b → entry b i ≡ 0 → c ≡ with_word b (16 + 2 * i) 65535
    → EntersHeap b c i 65535 (Some (replicate 0 0))
nothing-comes b c i p h is made = subst (λ (x : List ℕ). EntersHeap b x i 65535 (Some (replicate 0 0))) (sym made)
    (enters b i 65535 (Some (replicate 0 0)) p h (λ t. t.0 is) (omega arith) (λ t. t.1 refl) (λ x. chunk-nothing x 65535 refl))
