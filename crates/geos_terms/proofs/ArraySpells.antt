-- Bytes that encode an array, part by part.
use Rattle.std.proofs.Common.{◌≡◌, ◌≢◌, ℕ, zero, suc, ◌+◌, ◌*◌, ◌<◌, ◌≤◌, List, [], ◌∷◌, ◌++◌, length, take, drop, get_or, refl, ap, sym, ◌∙◌, inl, inr, arith, length-append}
use Rattle.std.specs.Prelude.{flat_map}
use Rattle.std.proofs.lemmas.Bool.{cases_eq, eq-eqb, ne_eqb}
use Rattle.std.proofs.lemmas.List.{take-append-drop, get_or-append-add}
use Rattle.geos_terms.specs.Bytes.{word, word_bytes}
use Rattle.geos_terms.specs.Arrays.{Array, first_at, element_at, offsets, table, head_words, spelled}
use Rattle.geos_terms.proofs.Joined.{join, length-join, take-words}

-- bytes with the header of an array, its table of offsets, and its elements
pub record Spells (bytes : List ℕ) (a : Array) : Type 0 where
  pub small : (k : ℕ) → get_or bytes k 0 < 256
  pub count : word bytes 0 ≡ length a.elements
  pub size : word bytes 2 ≡ a.element_size
  pub zero : word bytes 4 ≡ 0
  pub eight : word bytes 6 ≡ 8
  pub offsets : a.element_size ≡ 0 → (j : ℕ) → j < length a.elements → word bytes (8 + 2 * j) ≡ element_at a j
  pub fits : first_at a ≤ length bytes
  pub rest : drop (first_at a) bytes ≡ join a.elements

pub first-varying : (a : Array) → a.element_size ≡ 0 → first_at a ≡ 8 + 2 * length a.elements
first-varying a e = rw (eq-eqb a.element_size 0 e) refl

pub first-fixed : (a : Array) → a.element_size ≢ 0 → first_at a ≡ 8
first-fixed a ne = rw (ne_eqb a.element_size 0 ne) refl

pub table-varying : (a : Array) → a.element_size ≡ 0 → table a ≡ offsets (first_at a) a.elements
table-varying a e = rw (eq-eqb a.element_size 0 e) refl

pub table-fixed : (a : Array) → a.element_size ≢ 0 → table a ≡ []
table-fixed a ne = rw (ne_eqb a.element_size 0 ne) refl

-- where an element begins, by what is before it
pub element-at : (a : Array) (i : ℕ) → element_at a i ≡ first_at a + length (join (take i a.elements))
element-at a i = ap (λ n. first_at a + n) (length-join (take i a.elements))

pub length-offsets : (at : ℕ) (xs : List (List ℕ)) → length (offsets at xs) ≡ length xs
length-offsets at [] = refl
length-offsets at (x ∷ xs) = ap suc (length-offsets (at + length x) xs)

pub get_or-offsets : (at : ℕ) (xs : List (List ℕ)) (j : ℕ) → j < length xs → get_or (offsets at xs) j 0 ≡ at + length (join (take j xs))
get_or-offsets at [] j h = absurd (omega arith)
get_or-offsets at (x ∷ xs) zero h = omega arith
get_or-offsets at (x ∷ xs) (suc j) h = get_or-offsets (at + length x) xs j (omega arith) ∙ (omega (arith, length-append x (join (take j xs))))

pub length-head : (a : Array) → 2 * length (head_words a) ≡ first_at a
length-head a = elim (cases_eq a.element_size 0) [
  | inl e ↦ (let t = ap length (table-varying a e) ∙ length-offsets (first_at a) a.elements in omega (arith, t, first-varying a e))
  | inr ne ↦ (let t = ap length (table-fixed a ne) in omega (arith, t, first-fixed a ne))
]

-- the words of header and table
pub data HeadWord (a : Array) (j : ℕ) : Type 0 where
  Count : j ≡ 0 → HeadWord a j
  Size : j ≡ 1 → HeadWord a j
  Zero : j ≡ 2 → HeadWord a j
  Eight : j ≡ 3 → HeadWord a j
  Offset : (i : ℕ) → j ≡ 4 + i → i < length (table a) → HeadWord a j

pub head-cases : (a : Array) (j : ℕ) → j < length (head_words a) → HeadWord a j
head-cases a zero h = Count refl
head-cases a (suc zero) h = Size refl
head-cases a (suc (suc zero)) h = Zero refl
head-cases a (suc (suc (suc zero))) h = Eight refl
head-cases a (suc (suc (suc (suc i)))) h = Offset i (omega arith) (omega arith)

-- an offset of the table
pub offset-at : (a : Array) (i : ℕ) → i < length (table a) → (a.element_size ≡ 0) × (i < length a.elements) × (get_or (table a) i 0 ≡ element_at a i)
offset-at a i h = elim (cases_eq a.element_size 0) [
  | inl e ↦ (let t = table-varying a e in let l = ap length t ∙ length-offsets (first_at a) a.elements in
      let small : i < length a.elements = omega (arith, l) in
      (e, small, ap (λ xs. get_or xs i 0) t ∙ get_or-offsets (first_at a) a.elements i small ∙ sym (element-at a i)))
  | inr ne ↦ absurd (let l = ap length (table-fixed a ne) in omega (arith, l))
]

-- such bytes are the encoding of the array
pub spells : (bytes : List ℕ) (a : Array) → Spells bytes a → bytes ≡ spelled a
unfolding spelled
spells bytes a s =
    let n = length-head a in
    let head : take (2 * length (head_words a)) bytes ≡ flat_map word_bytes (head_words a) =
    take-words bytes (head_words a) s.small (omega (arith, n)) (λ j h. elim (head-cases a j h) [
      | Count e ↦ ap (λ k. word bytes (2 * k)) e ∙ s.count ∙ ap (λ k. get_or (head_words a) k 0) (sym e)
      | Size e ↦ ap (λ k. word bytes (2 * k)) e ∙ s.size ∙ ap (λ k. get_or (head_words a) k 0) (sym e)
      | Zero e ↦ ap (λ k. word bytes (2 * k)) e ∙ s.zero ∙ ap (λ k. get_or (head_words a) k 0) (sym e)
      | Eight e ↦ ap (λ k. word bytes (2 * k)) e ∙ s.eight ∙ ap (λ k. get_or (head_words a) k 0) (sym e)
      | Offset i e l ↦ (let o = offset-at a i l in let at : 2 * j ≡ 8 + 2 * i = omega arith in
          ap (λ k. word bytes k) at ∙ s.offsets o.0 i o.1 ∙ sym o.2
          ∙ sym (get_or-append-add (length a.elements ∷ a.element_size ∷ 0 ∷ 8 ∷ []) (table a) i 0) ∙ ap (λ k. get_or (head_words a) k 0) (sym e))
    ]) in
    sym (take-append-drop (first_at a) bytes) ∙ ap (λ xs. xs ++ drop (first_at a) bytes) (ap (λ m. take m bytes) (sym n) ∙ head)
    ∙ ap (λ xs. flat_map word_bytes (head_words a) ++ xs) s.rest
