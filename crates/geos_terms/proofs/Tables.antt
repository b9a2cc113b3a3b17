-- The chunks of two blocks, entry by entry.
use Rattle.std.proofs.Common.{◌≡◌, ◌≢◌, ℕ, zero, suc, ◌+◌, ◌<◌, ◌≤◌, List, ◌∷◌, length, Option, None, map, get_or, set, refl, ap, sym, ◌∙◌, inl, inr, arith, get_or-set_same, get_or-set_other, length-set}
use Rattle.std.proofs.lemmas.Bool.{cases_eq}
use Rattle.std.proofs.lemmas.List.{same_lists, get_or_default}
use Rattle.std.specs.List.{range_with_len}
use Rattle.geos_terms.specs.Bytes.{IsShifted}
use Rattle.geos_terms.specs.Block.{entry, entries, chunk_at, chunks}
use Rattle.geos_terms.specs.Heap.{IsOffset}
use Rattle.geos_terms.proofs.Entries.{chunks-at, chunk-none, chunk-nothing}
use Rattle.geos_terms.proofs.Moves.{chunk-stays}
use Rattle.geos_terms.proofs.Pieces.{LiesWithin}
use Rattle.geos_terms.proofs.Sums.{count-chunks}

-- equal item by item
pub map-range : {A : Type 0} (f g : ℕ → A) (a n : ℕ) → ((k : ℕ) → a ≤ k → k < a + n → f k ≡ g k)
    → map f (range_with_len a n) ≡ map g (range_with_len a n)
map-range f g a zero h = refl
map-range f g a (suc n) h = ap (λ x. x ∷ map f (range_with_len (a + 1) n)) (h a (omega arith) (omega arith))
    ∙ ap (λ xs. g a ∷ xs) (map-range f g (a + 1) n (λ k low high. h k (omega arith) (omega arith)))

pub chunks-same : (b c : List ℕ) → entries c ≡ entries b → ((i : ℕ) → i < entries b → chunk_at c (entry c i) ≡ chunk_at b (entry b i))
    → chunks c ≡ chunks b
chunks-same b c n each = ap (λ m. map (λ i. chunk_at c (entry c i)) (range_with_len 0 m)) n
    ∙ map-range (λ i. chunk_at c (entry c i)) (λ i. chunk_at b (entry b i)) 0 (entries b) (λ k low high. each k (omega arith))

-- one chunk is another, and no other changed
pub chunks-set : (b c : List ℕ) (i : ℕ) (x : Option (List ℕ)) → entries c ≡ entries b → i < entries b → chunk_at c (entry c i) ≡ x →
    ((j : ℕ) → j < entries b → j ≢ i → chunk_at c (entry c j) ≡ chunk_at b (entry b j)) → chunks c ≡ set (chunks b) i x
chunks-set b c i x n h here other =
    let nb = count-chunks b in
    let nc = count-chunks c in
    let ns = length-set (chunks b) i x in
    same_lists (chunks c) (set (chunks b) i x) (nc ∙ n ∙ sym nb ∙ sym ns) (λ k d l.
    let kb : k < entries b = omega (arith, n, nc) in
    let kc : k < entries c = omega (arith, nc) in
    get_or_default (chunks c) k d None l ∙ chunks-at c k kc ∙ (elim (cases_eq k i) [
      | inl e ↦ ap (λ y. chunk_at c (entry c y)) e ∙ here ∙ sym (ap (λ y. get_or (set (chunks b) i x) y None) e
          ∙ get_or-set_same (chunks b) i x None (omega (arith, nb)))
      | inr ne ↦ other k kb ne ∙ sym (chunks-at b k kb) ∙ sym (get_or-set_other (chunks b) i k x None ne)
    ])
    ∙ sym (get_or_default (set (chunks b) i x) k d None (omega (arith, ns, nb))))

-- the chunks of two entries are the same where both are 0, both 0xFFFF, or both are offsets of
-- equal chunks
pub chunk-cases : (b c : List ℕ) (e d : ℕ) → (e ≡ 0 → d ≡ 0) → (e ≡ 65535 → d ≡ 65535) → (IsOffset e → chunk_at c d ≡ chunk_at b e)
    → chunk_at c d ≡ chunk_at b e
chunk-cases b c e d none nothing told = elim (cases_eq e 0) [
  | inl z ↦ chunk-none c d (none z) ∙ sym (chunk-none b e z)
  | inr nz ↦ elim (cases_eq e 65535) [
    | inl f ↦ chunk-nothing c d (nothing f) ∙ sym (chunk-nothing b e f)
    | inr nf ↦ told (nz, nf)
  ]
]

-- that of an entry which stays, with the bytes where its chunk lies if it has any
pub chunk-kept : (b c : List ℕ) (j lo hi : ℕ) → hi ≤ length b → hi ≤ length c → entry c j ≡ entry b j
    → (IsOffset (entry b j) → LiesWithin b (entry b j) lo hi) → IsShifted b c 0 0 lo hi → chunk_at c (entry c j) ≡ chunk_at b (entry b j)
chunk-kept b c j lo hi fits_b fits_c same lies kept = chunk-cases b c (entry b j) (entry c j) (λ z. same ∙ z)
    (λ z. same ∙ z) (λ t. chunk-stays b c lo hi (entry b j) (entry c j) (lies t) kept same fits_b fits_c t)
