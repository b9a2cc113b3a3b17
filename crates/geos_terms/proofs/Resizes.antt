-- Byte lists that get another length.
use Rattle.std.proofs.Common.{◌≡◌, ℕ, zero, suc, ◌-◌, ◌<◌, List, [], ◌∷◌, ◌++◌, length, take, get_or, replicate, refl, ap, ◌∙◌, arith, length-append, length-take, ◌+◌, ◌≤◌, drop, sym, inl, inr, length-drop}
use Rattle.std.proofs.lemmas.Bool.{cases_lt}
use Rattle.std.proofs.lemmas.List.{length-replicate, get_or-take, get_or-drop, get_or_append_left, get_or-append-add}
use Rattle.std.proofs.lemmas.Grind.{same_number_lists}
use Rattle.lmem_raw.specs.Bytes.{part, with_part}
use Rattle.lmem_raw.proofs.Parts.{length-with_part}
use Rattle.geos_terms.specs.Chunks.{resized, with_zeros, without_part}
use Rattle.geos_terms.proofs.Words.{get_or-with_part_before, get_or-with_part_behind, get_or-with_part_within}

pub length-resized : (bs : List ℕ) (n : ℕ) → length (resized bs n) ≡ n
length-resized bs n = omega (
  arith,
  length-append (take n bs) (replicate (n - length bs) 0),
  length-take n bs,
  length-replicate {A = ℕ} (n - length bs) 0,
)

-- of zeros each is one, past their end too
pub zero-at : (n k : ℕ) → get_or (replicate {A = ℕ} n 0) k 0 ≡ 0
zero-at zero k = refl
zero-at (suc n) zero = refl
zero-at (suc n) (suc k) = zero-at n k

resized-more : (b : ℕ) (bs : List ℕ) (n : ℕ) → resized (b ∷ bs) (suc n) ≡ b ∷ resized bs n
resized-more b bs n = let e : suc n - suc (length bs) ≡ n - length bs = omega arith in ap (λ m. b ∷ (take n bs ++ replicate m 0)) e

-- the bytes that fit are there, and zeros after them
pub get_or-resized : (bs : List ℕ) (n k : ℕ) → k < n → get_or (resized bs n) k 0 ≡ get_or bs k 0
get_or-resized bs zero k h = absurd (omega arith)
get_or-resized [] (suc n) k h = zero-at (suc n - 0) k
get_or-resized (b ∷ bs) (suc n) zero h = refl
get_or-resized (b ∷ bs) (suc n) (suc k) h = ap (λ xs. get_or xs (suc k) 0) (resized-more b bs n) ∙ get_or-resized bs n k (omega arith)

-- where no byte stays
pub resized-nothing : (n : ℕ) → resized [] n ≡ replicate n 0
resized-nothing zero = refl
resized-nothing (suc n) = ap (λ m. replicate {A = ℕ} m 0) (let e : suc n - 0 ≡ suc n = omega arith in e)

pub resized-none : (bs : List ℕ) → resized bs 0 ≡ []
resized-none bs = ap (λ m. replicate {A = ℕ} m 0) (let e : 0 - length bs ≡ 0 = omega arith in e)

pub length-part : (bs : List ℕ) (at n : ℕ) → at + n ≤ length bs → length (part bs at n) ≡ n
length-part bs at n h = omega (arith, length-take n (drop at bs), length-drop at bs)

get_or-part : (bs : List ℕ) (at n k : ℕ) → k < n → get_or (part bs at n) k 0 ≡ get_or bs (at + k) 0
get_or-part bs at n k h = get_or-take n (drop at bs) k 0 h ∙ get_or-drop at bs k 0

pub length-with_zeros : (bs : List ℕ) (at n : ℕ) → at ≤ length bs → length (with_zeros bs at n) ≡ length bs + n
length-with_zeros bs at n h = omega (
  arith,
  length-append (take at bs) (replicate n 0 ++ drop at bs),
  length-append
      (replicate n 0) (drop at bs),
  length-take at bs,
  length-drop at bs,
  length-replicate {A = ℕ} n 0,
)

-- a chunk that got n more bytes at its end, and the bytes from an offset on moved up by n
pub opened-zeros : (bs : List ℕ) (at n : ℕ) → at ≤ length bs →
    with_part (with_part (resized bs (length bs + n)) (at + n) (part (resized bs (length bs + n)) at (length bs - at))) at
    (replicate n 0) ≡ with_zeros bs at n
opened-zeros bs at n h =
    let len = length bs in
    let r = resized bs (len + n) in
    let lr = length-resized bs (len + n) in
    let moved = part r at (len - at) in
    let lm : length moved ≡ len - at = length-part r at (len - at) (omega arith) in
    let zs : List ℕ = replicate n 0 in
    let lz = length-replicate {A = ℕ} n 0 in
    let y = with_part r (at + n) moved in
    let ly = length-with_part r (at + n) moved in
    let lt : length (take at bs) ≡ at = omega (arith, length-take at bs) in
    same_number_lists (with_part y at zs) (with_zeros bs at n) (length-with_part y at zs ∙ ly ∙ lr ∙ sym (length-with_zeros bs at n h)) (λ k l.
    let small : k < len + n = omega (arith, l, length-with_part y at zs, ly, lr) in
    elim (cases_lt k at) [
      | inl a ↦ get_or-with_part_before y at zs k a ∙ get_or-with_part_before r (at + n) moved k (omega arith) ∙ get_or-resized bs (len + n) k small
          ∙ sym (get_or_append_left (take at bs) (zs ++ drop at bs) 0 k (omega arith) ∙ get_or-take at bs k 0 a)
      | inr a ↦ (let here : length (take at bs) + (k - at) ≡ k = omega arith in
          let right : get_or (with_zeros bs at n) k 0 ≡ get_or (zs ++ drop at bs) (k - at) 0 = ap (λ x. get_or (with_zeros bs at n) x 0) (sym here)
          ∙ get_or-append-add (take at bs) (zs ++ drop at bs) (k - at) 0 in
          elim (cases_lt k (at + n)) [
            | inl m ↦ get_or-with_part_within y at zs k (k - at) (omega arith) (omega (arith, lz)) (omega (arith, ly, lr))
                ∙ sym (right ∙ get_or_append_left zs (drop at bs) 0 (k - at) (omega (arith, lz)))
            | inr m ↦ (let there : length zs + (k - (at + n)) ≡ k - at = omega (arith, lz) in
                let old : at + (k - (at + n)) ≡ k - n = omega arith in
                get_or-with_part_behind y at zs k (omega (arith, lz)) ∙ get_or-with_part_within r (at + n) moved k
                (k - (at + n)) (omega arith) (omega (arith, lm)) (omega (arith, lr))
                ∙ get_or-part r at (len - at) (k - (at + n)) (omega arith) ∙ get_or-resized bs (len + n) (at + (k - (at + n))) (omega arith)
                ∙ sym (right ∙ ap (λ x. get_or (zs ++ drop at bs) x 0) (sym there) ∙ get_or-append-add zs (drop at bs) (k - (at + n)) 0
                ∙ get_or-drop at bs (k - (at + n)) 0))
          ])
    ])

-- a chunk whose bytes moved down over n of them, and that lost its last n
pub closed-without : (bs : List ℕ) (at n : ℕ) → at + n ≤ length bs
    → resized (with_part bs at (part bs (at + n) (length bs - (at + n)))) (length bs - n) ≡ without_part bs at n
closed-without bs at n h =
    let len = length bs in
    let moved = part bs (at + n) (len - (at + n)) in
    let lm : length moved ≡ len - (at + n) = length-part bs (at + n) (len - (at + n)) (omega arith) in
    let y = with_part bs at moved in
    let ly = length-with_part bs at moved in
    let lt : length (take at bs) ≡ at = omega (arith, length-take at bs) in
    let lw : length (without_part bs at n) ≡ len - n = omega (arith, length-append (take at bs) (drop (at + n) bs), lt, length-drop (at + n) bs) in
    same_number_lists (resized y (len - n)) (without_part bs at n) (length-resized y (len - n) ∙ sym lw) (λ k l.
    let small : k < len - n = omega (arith, l, length-resized y (len - n)) in
    get_or-resized y (len - n) k small ∙ (elim (cases_lt k at) [
      | inl a ↦ get_or-with_part_before bs at moved k a
          ∙ sym (get_or_append_left (take at bs) (drop (at + n) bs) 0 k (omega arith) ∙ get_or-take at bs k 0 a)
      | inr a ↦ (let here : length (take at bs) + (k - at) ≡ k = omega arith in
          get_or-with_part_within bs at moved k (k - at) (omega arith) (omega (arith, lm)) (omega arith)
          ∙ get_or-part bs (at + n) (len - (at + n)) (k - at) (omega arith)
          ∙ sym (ap (λ x. get_or (without_part bs at n) x 0) (sym here) ∙ get_or-append-add (take at bs) (drop (at + n) bs) (k - at) 0
          ∙ get_or-drop (at + n) bs (k - at) 0))
    ]))
