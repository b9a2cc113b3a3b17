-- Arrays whose elements have the size that they say.
use Rattle.std.proofs.Common.{◌≡◌, ◌≢◌, ℕ, zero, suc, ◌+◌, ◌*◌, true, List, ◌∷◌, Some, None, length, take, drop, replicate, ◌∙◌, subst, inl, inr, arith, length-take, length-drop}
use Rattle.std.specs.Prelude.{◌==◌, if◌then◌else◌, All}
use Rattle.std.proofs.lemmas.Bool.{cases_Bool, and_parts, ne_eqb, eqb-true}
use Rattle.std.proofs.lemmas.List.{length-replicate}
use Rattle.std.proofs.lemmas.List.Elements.{All-nil, All-cons, All-append, All-take, All-drop, All-set}
use Rattle.geos_terms.specs.Arrays.{Array, arr, is_array, has_header, are_varying, are_equal, equal_parts, count_word, size_word, empty, new_length, with_element, without_element, with_element_bytes}
use Rattle.geos_terms.proofs.ArrayReads.{array_in}
use Rattle.chunk_array.specs.Changes.{IsSized}
use Rattle.chunk_array.proofs.Inserting.{new-fixed}

-- parts of one size have it
equal-sized : (k n : ℕ) (bytes : List ℕ) → length bytes ≡ n * k → All (λ x. length x ≡ k) (equal_parts k n bytes)
equal-sized k zero bytes h = All-nil (λ x. length x ≡ k)
equal-sized k (suc n) bytes h =
    let e : suc n * k ≡ k + n * k = omega arith in
    All-cons (λ x. length x ≡ k) (take k bytes) (equal_parts k n (drop k bytes)) (omega (arith, length-take k bytes, e, h))
    (equal-sized k n (drop k bytes) (omega (arith, length-drop k bytes, e, h)))

-- an array that bytes encode has legal sizes
pub read-sized : (bytes : List ℕ) (a : Array) → arr bytes ≡ Some a → IsSized a
unfolding arr
read-sized bytes a is = elim (cases_Bool (is_array bytes)) [
  | inl right ↦ (let same : array_in bytes ≡ a = (let e : Some (array_in bytes) ≡ Some a = rw right at is in cc) in
      subst IsSized same (here bytes right))
  | inr wrong ↦ absurd (let e : None ≡ Some a = rw wrong at is in cc)
]
  where
    here : (bytes : List ℕ) → is_array bytes ≡ true → IsSized (array_in bytes)
    here bytes h some =
        let both = and_parts (has_header bytes) (if size_word bytes == 0 then are_varying bytes else are_equal bytes) h in
        let q = ne_eqb (size_word bytes) 0 some in
        let long = eqb-true (length bytes) (8 + count_word bytes * size_word bytes) (rw q at both.1) in
        rw q (equal-sized (size_word bytes) (count_word bytes) (drop 8 bytes) (omega (arith, long, length-drop 8 bytes)))

-- edits keep the size

pub empty-sized : (k : ℕ) → IsSized (empty k)
empty-sized k some = All-nil (λ x. length x ≡ k)

pub with-sized : (a : Array) (i n : ℕ) → IsSized a → IsSized (with_element a i n)
with-sized a i n h some =
    let P : List ℕ → Type 0 = λ x. length x ≡ a.element_size in
    let z : List ℕ = replicate (new_length a n) 0 in
    let xs = a.elements in
    All-append P (take i xs) (z ∷ drop i xs) (All-take P i xs (h some))
    (All-cons P z (drop i xs) (length-replicate (new_length a n) 0 ∙ new-fixed a n some) (All-drop P i xs (h some)))

pub without-sized : (a : Array) (i : ℕ) → IsSized a → IsSized (without_element a i)
without-sized a i h some =
    let P : List ℕ → Type 0 = λ x. length x ≡ a.element_size in
    let xs = a.elements in
    All-append P (take i xs) (drop (suc i) xs) (All-take P i xs (h some)) (All-drop P (suc i) xs (h some))

pub with-bytes-sized : (a : Array) (i : ℕ) (bytes : List ℕ) → (a.element_size ≢ 0 → length bytes ≡ a.element_size)
    → IsSized a → IsSized (with_element_bytes a i bytes)
with-bytes-sized a i bytes right h some = All-set (λ x. length x ≡ a.element_size) a.elements i bytes (right some) (h some)
