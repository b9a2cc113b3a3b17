-- Offsets that never fall.
use Rattle.std.proofs.Common.{◌≡◌, ℕ, zero, suc, ◌+◌, ◌-◌, ◌*◌, ◌<◌, ◌≤◌, false, List, [], ◌∷◌, length, ap, sym, ◌∙◌, inl, inr, arith}
use Rattle.std.specs.Prelude.{nat_le, ◌==◌, ◌&&◌}
use Rattle.std.proofs.lemmas.Bool.{cases_eq, cases_lt, lt-leb, le-leb, eq-eqb, ne_eqb, and_left, and_right}
use Rattle.geos_terms.specs.Bytes.{word}
use Rattle.geos_terms.specs.Arrays.{are_offsets, never_fall, words_from}

-- no offset is past the end
pub never-past : (at : ℕ) (rest : List ℕ) (end : ℕ) → end < at → never_fall at rest end ≡ false
never-past at [] end h = lt-leb at end h
never-past at (next ∷ rest) end h = elim (cases_lt next at) [
  | inl low ↦ and_left (nat_le at next) (never_fall next rest end) (lt-leb at next low)
  | inr high ↦ and_right (nat_le at next) (never_fall next rest end) (never-past next rest end (omega arith))
]

-- the first offset is another
pub other-first : (bytes : List ℕ) (n : ℕ) → 0 < n → (word bytes 8 ≡ 8 + 2 * n → ⊥)
    → are_offsets (words_from bytes 8 n) (8 + 2 * n) (length bytes) ≡ false
other-first bytes zero some ne = absurd (omega arith)
other-first bytes (suc n) some ne = and_left (word bytes 8 == 8 + 2 * suc n) (never_fall (word bytes 8) (words_from bytes 10 n) (length bytes))
    (ne_eqb (word bytes 8) (8 + 2 * suc n) ne)

-- the table ends past the bytes
pub table-past : (bytes : List ℕ) (n : ℕ) → 0 < n → length bytes < 8 + 2 * n → are_offsets (words_from bytes 8 n) (8 + 2 * n) (length bytes) ≡ false
table-past bytes zero some h = absurd (omega arith)
table-past bytes (suc n) some h = elim (cases_eq (word bytes 8) (8 + 2 * suc n)) [
  | inl e ↦ and_right (word bytes 8 == 8 + 2 * suc n) (never_fall (word bytes 8) (words_from bytes 10 n) (length bytes))
      (never-past (word bytes 8) (words_from bytes 10 n) (length bytes) (omega (arith, e)))
  | inr ne ↦ other-first bytes (suc n) some ne
]

-- the first offset is right: the others decide
pub right-first : (bytes : List ℕ) (n first : ℕ) → 0 < n → first ≡ 8 + 2 * n → word bytes 8 ≡ first
    → are_offsets (words_from bytes 8 n) (8 + 2 * n) (length bytes) ≡ never_fall first (words_from bytes (8 + 2 * 1) (n - 1)) (length bytes)
right-first bytes zero first some is e = absurd (omega arith)
right-first bytes (suc n) first some is e =
    let q = eq-eqb (word bytes 8) (8 + 2 * suc n) (e ∙ is) in
    let less : suc n - 1 ≡ n = omega arith in
    ap (λ t. t && never_fall (word bytes 8) (words_from bytes 10 n) (length bytes)) q
    ∙ ap (λ x. never_fall x (words_from bytes 10 n) (length bytes)) e ∙ ap (λ m. never_fall first (words_from bytes 10 m) (length bytes)) (sym less)

-- one offset on
pub words-more : (bytes : List ℕ) (i n : ℕ) → i < n → words_from bytes (8 + 2 * i) (n - i) ≡ word bytes (8 + 2 * i)
    ∷ words_from bytes (8 + 2 * (i + 1)) (n - (i + 1))
words-more bytes i n h =
    let more : n - i ≡ suc (n - (i + 1)) = omega arith in
    let next : 8 + 2 * i + 2 ≡ 8 + 2 * (i + 1) = omega arith in
    ap (words_from bytes (8 + 2 * i)) more ∙ ap (λ at. word bytes (8 + 2 * i) ∷ words_from bytes at (n - (i + 1))) next

pub rise-seen : (bytes : List ℕ) (i n last next : ℕ) → i < n → next ≡ word bytes (8 + 2 * i) → last ≤ next
    → never_fall last (words_from bytes (8 + 2 * i) (n - i)) (length bytes) ≡ never_fall next
    (words_from bytes (8 + 2 * (i + 1)) (n - (i + 1))) (length bytes)
rise-seen bytes i n last next h is high =
    let rest = words_from bytes (8 + 2 * (i + 1)) (n - (i + 1)) in
    ap (λ xs. never_fall last xs (length bytes)) (words-more bytes i n h) ∙ ap (λ x. nat_le last x && never_fall x rest (length bytes)) (sym is)
    ∙ ap (λ t. t && never_fall next rest (length bytes)) (le-leb last next high)

-- offsets that rise from the first one on are seen
pub risen-up : (bytes : List ℕ) (n first : ℕ) → 0 < n → first ≡ 8 + 2 * n → word bytes 8 ≡ first → (m i last : ℕ)
    → i ≡ m + 1 → i ≤ n → ((j : ℕ) → j < m → word bytes (8 + 2 * j) ≤ word bytes (8 + 2 * (j + 1))) → last ≡ word bytes (8 + 2 * m)
    → are_offsets (words_from bytes 8 n) (8 + 2 * n) (length bytes) ≡ never_fall last (words_from bytes (8 + 2 * i) (n - i)) (length bytes)
risen-up bytes n first some is e zero i last i_is fits rise last_is =
    let one : 1 ≡ i = omega (arith, i_is) in
    right-first bytes n first some is e ∙ ap (λ x. never_fall x (words_from bytes (8 + 2 * 1) (n - 1)) (length bytes)) (sym e ∙ sym last_is)
    ∙ ap (λ k. never_fall last (words_from bytes (8 + 2 * k) (n - k)) (length bytes)) one
risen-up bytes n first some is e (suc m) i last i_is fits rise last_is =
    let next : m + 1 + 1 ≡ i = omega (arith, i_is) in
    let here : suc m ≡ m + 1 = omega arith in
    let at : last ≡ word bytes (8 + 2 * (m + 1)) = last_is ∙ ap (λ k. word bytes (8 + 2 * k)) here in
    let high = rise m (omega arith) in
    risen-up bytes n first some is e m (m + 1) (word bytes (8 + 2 * m)) (omega arith) (omega (arith, next, fits))
    (λ j l. rise j (omega arith)) (omega arith)
    ∙ rise-seen bytes (m + 1) n (word bytes (8 + 2 * m)) last (omega (arith, next, fits)) at (omega (arith, at, high))
    ∙ ap (λ k. never_fall last (words_from bytes (8 + 2 * k) (n - k)) (length bytes)) next

pub risen : (bytes : List ℕ) (n first m last : ℕ) → 0 < n → first ≡ 8 + 2 * n → word bytes 8 ≡ first → 0 < m → m ≤ n
    → ((j : ℕ) → j + 1 < m → word bytes (8 + 2 * j) ≤ word bytes (8 + 2 * (j + 1))) → last ≡ word bytes (8 + 2 * (m - 1))
    → are_offsets (words_from bytes 8 n) (8 + 2 * n) (length bytes) ≡ never_fall last (words_from bytes (8 + 2 * m) (n - m)) (length bytes)
risen bytes n first m last some is e pos fits rise last_is = risen-up bytes n first some is e (m - 1) m last
    (omega arith) fits (λ j l. rise j (omega arith)) last_is
