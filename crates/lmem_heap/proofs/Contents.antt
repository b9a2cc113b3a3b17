-- Bytes that stay at the front of a chunk, and zeros after them.
use Rattle.std.proofs.Common.{◌≡◌, ℕ, ◌+◌, ◌-◌, ◌<◌, ◌≤◌, ◌⊎◌, List, length, get_or, replicate, drop, ap, sym, ◌∙◌, inl, inr, arith}
use Rattle.std.proofs.lemmas.Bool.{cases_lt}
use Rattle.std.proofs.lemmas.Grind.{same_number_lists}
use Rattle.std.proofs.lemmas.List.{get_or-take, get_or-drop, get_or_past, length-replicate}
use Rattle.lmem_raw.specs.Bytes.{part, with_part}
use Rattle.lmem_raw.proofs.Parts.{length-with_part}
use Rattle.geos_terms.specs.Chunks.{resized}
use Rattle.geos_terms.proofs.Words.{get_or-with_part_before, get_or-with_part_behind, get_or-with_part_within}
use Rattle.geos_terms.proofs.Resizes.{length-part, length-resized, get_or-resized, zero-at}

-- zeros that are written leave the length
pub length-zeros : (d c : List ℕ) (from m : ℕ) → c ≡ with_part d from (replicate m 0) → length c ≡ length d
length-zeros d c from m is = ap length is ∙ length-with_part d from (replicate m 0)

-- a byte beside them
pub beside-zeros : (d c : List ℕ) (from m k : ℕ) → c ≡ with_part d from (replicate m 0) → (k < from) ⊎ (from + m ≤ k) → get_or c k 0 ≡ get_or d k 0
beside-zeros d c from m k is (inl h) = ap (λ x. get_or x k 0) is ∙ get_or-with_part_before d from (replicate m 0) k h
beside-zeros d c from m k is (inr h) = ap (λ x. get_or x k 0) is ∙ get_or-with_part_behind d from (replicate m 0) k
    (omega (arith, length-replicate {A = ℕ} m 0, h))

-- one of them
pub within-zeros : (d c : List ℕ) (from m k : ℕ) → c ≡ with_part d from (replicate m 0) → from + m ≤ length d → from ≤ k
    → k < from + m → get_or c k 0 ≡ 0
within-zeros d c from m k is fits low high =
    let z = length-replicate {A = ℕ} m 0 in
    ap (λ x. get_or x k 0) is ∙ get_or-with_part_within d from (replicate m 0) k (k - from) (omega arith) (omega (arith, z)) (omega (arith, z))
    ∙ zero-at m (k - from)

-- the bytes of a resized chunk: its first bytes as far as there is room, then zeros
pub kept-bytes : (old c : List ℕ) (at keep n : ℕ) → at + n ≤ length c → (n ≤ keep) ⊎ (length old ≤ keep) →
    ((q : ℕ) → q < keep → q < n → get_or c (at + q) 0 ≡ get_or old q 0) → ((q : ℕ) → keep ≤ q → q < n → get_or c (at + q) 0 ≡ 0)
    → part c at n ≡ resized old n
kept-bytes old c at keep n fits exact kept zeros =
    let nc = length-part c at n fits in
    same_number_lists (part c at n) (resized old n) (nc ∙ sym (length-resized old n)) (λ q l.
    let small : q < n = omega (arith, l, nc) in
    get_or-take n (drop at c) q 0 small ∙ get_or-drop at c q 0 ∙ (elim (cases_lt q keep) [
      | inl stays ↦ kept q stays small
      | inr new ↦ zeros q new small
          ∙ sym (get_or_past old q 0 (elim exact [ inl z ↦ absurd (omega (arith, z, small, new)) | inr z ↦ omega (arith, z, new) ]))
    ])
    ∙ sym (get_or-resized old n q small))
