-- The writes that make the last bytes free.
use Rattle.std.proofs.Common.{◌≡◌, ◌≢◌, ℕ, ◌+◌, ◌-◌, ◌%◌, ◌≤◌, ◌⊎◌, List, length, get_or, ap, sym, ◌∙◌, inl, inr, arith}
use Rattle.geos_terms.specs.Bytes.{word, with_word}
use Rattle.geos_terms.proofs.Words.{word-same, word-other, length-with_word, byte-other}
use Rattle.lmem_heap.specs.Packed.{SetsTail}

-- no bytes
pub tail-none : (b b1 b2 : List ℕ) (at left : ℕ) → 16 ≤ at → at ≤ length b → left ≡ length b - at → left ≡ 0
    → b1 ≡ with_word b 14 left → b2 ≡ with_word b1 12 0 → SetsTail b b2 at
tail-none b b1 b2 at left low fits is none e1 e2 =
    let n1 = length-with_word b 14 left in
    let n2 = length-with_word b1 12 0 in
    let l1 = ap length e1 in
    let l2 = ap length e2 in
    let total : word b2 14 ≡ left = ap (λ x. word x 14) e2 ∙ word-other b1 12 0 14 (inr (omega arith)) ∙ ap (λ x. word x 14) e1
    ∙ word-same b 14 left (omega arith) (omega arith) in
    record {
      long = l2 ∙ n2 ∙ l1 ∙ n1;
      total = omega (arith, total, l1, l2, n1, n2);
      ends = record {
        none = (λ z. ap (λ x. word x 12) e2 ∙ word-same b1 12 0 (omega arith) (omega (arith, l1, n1)));
        some = (λ h. absurd (omega (arith, h, total)));
      };
      same = (λ k h out. ap (λ x. get_or x k 0) e2 ∙ byte-other b1 12 0 k (elim out [ inl l ↦ inl l | inr g ↦ inr (omega arith) ])
          ∙ ap (λ x. get_or x k 0) e1 ∙ byte-other b 14 left k (elim out [ inl l ↦ inl (omega arith) | inr g ↦ inr g ]));
    }

-- one free chunk
pub tail-some : (b b1 b2 b3 b4 : List ℕ) (at left : ℕ) → 16 ≤ at → at ≤ length b → length b ≤ 65520 → left ≡ length b - at → left % 4 ≡ 0 → left ≢ 0 →
    b1 ≡ with_word b 14 left → b2 ≡ with_word b1 12 at → b3 ≡ with_word b2 at left → b4 ≡ with_word b3 (at + 2) 0 → SetsTail b b4 at
tail-some b b1 b2 b3 b4 at left low fits most is fours some e1 e2 e3 e4 =
    let n1 = length-with_word b 14 left in
    let n2 = length-with_word b1 12 at in
    let n3 = length-with_word b2 at left in
    let n4 = length-with_word b3 (at + 2) 0 in
    let l1 = ap length e1 in
    let l2 = ap length e2 in
    let l3 = ap length e3 in
    let l4 = ap length e4 in
    let four : 4 ≤ left = omega arith in
    let w4 : (j : ℕ) → (j + 2 ≤ at + 2) ⊎ (at + 2 + 2 ≤ j) → word b4 j ≡ word b3 j = (λ j h. ap (λ x. word x j) e4 ∙ word-other b3 (at + 2) 0 j h) in
    let w3 : (j : ℕ) → (j + 2 ≤ at) ⊎ (at + 2 ≤ j) → word b3 j ≡ word b2 j = (λ j h. ap (λ x. word x j) e3 ∙ word-other b2 at left j h) in
    let total : word b4 14 ≡ left = w4 14 (inl (omega arith)) ∙ w3 14 (inl (omega arith)) ∙ ap (λ x. word x 14) e2
    ∙ word-other b1 12 at 14 (inr (omega arith)) ∙ ap (λ x. word x 14) e1 ∙ word-same b 14 left (omega arith) (omega arith) in
    let first : word b4 12 ≡ at = w4 12 (inl (omega arith)) ∙ w3 12 (inl (omega arith)) ∙ ap (λ x. word x 12) e2
    ∙ word-same b1 12 at (omega arith) (omega (arith, l1, n1)) in
    let size : word b4 at ≡ left = w4 at (inl (omega arith)) ∙ ap (λ x. word x at) e3
    ∙ word-same b2 at left (omega arith) (omega (arith, l1, n1, l2, n2)) in
    let next : word b4 (at + 2) ≡ 0 = ap (λ x. word x (at + 2)) e4 ∙ word-same b3 (at + 2) 0 (omega arith) (omega (arith, l1, n1, l2, n2, l3, n3)) in
    record {
      long = l4 ∙ n4 ∙ l3 ∙ n3 ∙ l2 ∙ n2 ∙ l1 ∙ n1;
      total = omega (arith, total, l1, l2, l3, l4, n1, n2, n3, n4);
      ends = record { none = (λ z. absurd (some (sym total ∙ z))); some = (λ h. (first, size ∙ sym total, next)) };
      same = (λ k h out. ap (λ x. get_or x k 0) e4 ∙ byte-other b3 (at + 2) 0 k (inl (omega arith)) ∙ ap (λ x. get_or x k 0) e3
          ∙ byte-other b2 at left k (inl h)
          ∙ ap (λ x. get_or x k 0) e2 ∙ byte-other b1 12 at k (elim out [ inl l ↦ inl l | inr g ↦ inr (omega arith) ])
          ∙ ap (λ x. get_or x k 0) e1 ∙ byte-other b 14 left k (elim out [ inl l ↦ inl (omega arith) | inr g ↦ inr g ]));
    }
