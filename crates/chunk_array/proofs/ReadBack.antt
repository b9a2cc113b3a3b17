-- An array that is encoded in a chunk is read back from it.
use Rattle.std.proofs.Common.{◌≡◌, ◌≢◌, ℕ, List, [], ◌∷◌, ◌++◌, Option, Some, None, length, replicate, unwrap_or, refl, ap, sym, ◌∙◌, inl, inr, ◌⊎◌, arith}
use Rattle.std.specs.Prelude.{Bool, is_none, nat_lt}
use Rattle.std.proofs.lemmas.Bool.{cases_lt}
use Rattle.std.proofs.lemmas.List.{get_or_past}
use Rattle.geos_terms.specs.declared.refusal.Refusal.{Refusal}
use Rattle.geos_terms.specs.declared.refusal.Refusal.TheVariants.{BadChunk, BadArray, BadElement}
use Rattle.geos_terms.specs.Refusals.{first_refusal}
use Rattle.geos_terms.specs.Bytes.{AreBytes}
use Rattle.geos_terms.specs.Chunks.{chunk_of, bytes_of, with_new, new_handle, resized}
use Rattle.geos_terms.specs.Arrays.{Array, arr, element, empty, spelled, with_element, without_element, with_element_bytes}
use Rattle.geos_terms.specs.ArrayEdits.{array_of, count_of, no_array, is_fixed, is_past, with_array, create_array, append_element, insert_element, remove_element, clear_array, resize_element}
use Rattle.geos_terms.proofs.ArrayRound.{array-spelled, spelled-array}
use Rattle.geos_terms.proofs.ArrayReads.{not-headed}
use Rattle.geos_terms.proofs.ArrayTests.{array-of, fixed-refused}
use Rattle.geos_terms.proofs.ChunkItems.{known-bytes, chunk-written, chunk-new}
use Rattle.chunk_array.specs.Changes.{IsSized, ChangesArray, EditsChangeArrays}
use Rattle.chunk_array.proofs.Sized.{read-sized, empty-sized, with-sized, without-sized, with-bytes-sized}

-- bytes that encode an array are the array's encoding
pub spelled-once : (bytes : List ℕ) (a : Array) → AreBytes bytes → arr bytes ≡ Some a → spelled a ≡ bytes
spelled-once bytes a small is = spelled-array bytes a (λ k. elim (cases_lt k (length bytes)) [
  | inl l ↦ small k 0 l
  | inr g ↦ omega (arith, get_or_past bytes k 0 g)
]) is

-- a chunk that encodes an array
record Spells (cs : List (Option (List ℕ))) (c : ℕ) (a : Array) : Type 0 where
  bytes : List ℕ
  there : chunk_of cs c ≡ Some bytes
  is : arr bytes ≡ Some a

some-or-none : {X : Type 0} (o : Option X) → ((x : X) × (o ≡ Some x)) ⊎ (o ≡ None)
some-or-none None = inr refl
some-or-none (Some x) = inl (x, refl)

-- it does where the first tests of calls on arrays pass
passed : (cs : List (Option (List ℕ))) (c : ℕ) (more : List (Bool × Refusal)) → first_refusal (no_array cs c ++ more) ≡ None
    → Spells cs c (array_of cs c)
passed cs c more h = elim (some-or-none (chunk_of cs c)) [
  | inr none ↦ absurd (let e : Some BadChunk ≡ None =
      sym (ap (λ x. first_refusal ((is_none x, BadChunk) ∷ (is_none (arr (bytes_of cs c)), BadArray) ∷ more)) none) ∙ h in cc)
  | inl (bytes, there) ↦ elim (some-or-none (arr bytes)) [
    | inl (a, is) ↦ record { bytes = bytes; there = there; is = is ∙ ap Some (sym (array-of cs c bytes a there is)) }
    | inr none ↦ absurd (let e : first_refusal ((is_none (chunk_of cs c), BadChunk) ∷ (is_none (arr (bytes_of cs c)), BadArray) ∷ more) ≡ Some
        BadArray =
        ap (λ x. first_refusal ((is_none x, BadChunk) ∷ (is_none (arr (bytes_of cs c)), BadArray) ∷ more)) there
        ∙ ap (λ x. first_refusal ((is_none x, BadArray) ∷ more)) (ap arr (known-bytes cs c bytes there) ∙ none) in
        let f : Some BadArray ≡ None = sym e ∙ h in cc)
  ]
]

-- an array that is encoded in a chunk is read there
pub read-back : (cs : List (Option (List ℕ))) (c : ℕ) (bytes : List ℕ) (a : Array) → chunk_of cs c ≡ Some bytes
    → IsSized a → arr (bytes_of (with_array cs c a) c) ≡ Some a
read-back cs c bytes a there sized = ap arr (known-bytes (with_array cs c a) c (spelled a) (chunk-written cs c bytes (spelled a) there))
    ∙ array-spelled a sized

pub read-there : (cs : List (Option (List ℕ))) (c : ℕ) (old new : Array) → arr (bytes_of cs c) ≡ Some old → IsSized new
    → arr (bytes_of (with_array cs c new) c) ≡ Some new
read-there cs c old new is sized = elim (some-or-none (chunk_of cs c)) [
  | inl (bytes, there) ↦ read-back cs c bytes new there sized
  | inr none ↦ absurd (let e : Some old ≡ None = sym is ∙ ap (λ x. arr (unwrap_or x [])) none ∙ not-headed [] refl in cc)
]

-- and so the array in it changes
changes : (cs new : List (Option (List ℕ))) (c : ℕ) (change : Array → Array) → Spells cs c (array_of cs c)
    → IsSized (change (array_of cs c)) → new ≡ with_array cs c (change (array_of cs c)) → ChangesArray cs new c change
changes cs new c change s sized made =
    record {
      before = array_of cs c;
      was = ap arr (known-bytes cs c s.bytes s.there) ∙ s.is;
      is = ap (λ x. arr (bytes_of x c)) made
          ∙ read-back cs c s.bytes (change (array_of cs c)) s.there sized;
    }

-- the array in a chunk is sized
here-sized : (cs : List (Option (List ℕ))) (c : ℕ) → Spells cs c (array_of cs c) → IsSized (array_of cs c)
here-sized cs c s = read-sized s.bytes (array_of cs c) s.is

-- who looks at the chunk then finds the changed array
pub changed-found : (old new : List (Option (List ℕ))) (c : ℕ) (change : Array → Array) → ChangesArray old new c change
    → array_of new c ≡ change (array_of old c)
changed-found old new c change h = ap (λ x. unwrap_or x (empty 0)) h.is ∙ ap change (sym (ap (λ x. unwrap_or x (empty 0)) h.was))

-- What edits make of the array in a chunk

pub creates : (k c : ℕ) (cs new : List (Option (List ℕ))) → c ≡ new_handle cs → new ≡ (create_array k cs).chunks
    → arr (bytes_of new c) ≡ Some (empty k)
creates k c cs new is made =
    ap (λ x. arr (bytes_of x c)) made ∙ ap (λ x. arr (bytes_of (create_array k cs).chunks x)) is
    ∙ read-back (with_new cs 8) (new_handle cs) (replicate 8 0) (empty k) (chunk-new cs 8) (empty-sized k)

module _ (cs new : List (Option (List ℕ))) (c : ℕ) where
  pub appends : (n : ℕ) → first_refusal (append_element c n cs).refusals ≡ None → new ≡ (append_element c n cs).chunks
      → ChangesArray cs new c (λ a. with_element a (length a.elements) n)
  appends n h made = let s = passed cs c [] h in changes cs new c (λ a. with_element a (length a.elements) n) s
      (with-sized (array_of cs c) (length (array_of cs c).elements) n (here-sized cs c s)) made

  pub inserts : (i n : ℕ) → first_refusal (insert_element c i n cs).refusals ≡ None → new ≡ (insert_element c i n cs).chunks
      → ChangesArray cs new c (λ a. with_element a i n)
  inserts i n h made = let s = passed cs c ((nat_lt (count_of cs c) i, BadElement) ∷ []) h in
      changes cs new c (λ a. with_element a i n) s (with-sized (array_of cs c) i n (here-sized cs c s)) made

  pub removes : (i : ℕ) → first_refusal (remove_element c i cs).refusals ≡ None → new ≡ (remove_element c i cs).chunks
      → ChangesArray cs new c (λ a. without_element a i)
  removes i h made = let s = passed cs c (is_past cs c i ∷ []) h in changes cs new c (λ a. without_element a i) s
      (without-sized (array_of cs c) i (here-sized cs c s)) made

  pub clears : first_refusal (clear_array c cs).refusals ≡ None → new ≡ (clear_array c cs).chunks → ChangesArray cs new c (λ a. empty a.element_size)
  clears h made = let s = passed cs c [] h in changes cs new c (λ a. empty a.element_size) s (empty-sized (array_of cs c).element_size) made

  pub resizes : (i n : ℕ) → first_refusal (resize_element c i n cs).refusals ≡ None → new ≡ (resize_element c i n cs).chunks
      → ChangesArray cs new c (λ a. with_element_bytes a i (resized (element a i) n))
  resizes i n h made =
      let a = array_of cs c in
      let more = is_past cs c i ∷ [] in
      let s = passed cs c (is_fixed cs c ∷ more) h in
      let z = resized (element a i) n in
      let right : a.element_size ≢ 0 → length z ≡ a.element_size =
      (λ some. absurd (let e : Some BadArray ≡ None = sym (fixed-refused cs c s.bytes a s.there s.is more some) ∙ h in cc)) in
      changes cs new c (λ a. with_element_bytes a i (resized (element a i) n)) s (with-bytes-sized a i z right (here-sized cs c s)) made

pub edits_change_arrays : EditsChangeArrays
edits_change_arrays = record {
  by_create = λ k cs. creates k (new_handle cs) cs (create_array k cs).chunks refl refl;
  by_append = λ c n cs h. appends cs (append_element c n cs).chunks c n h refl;
  by_insert = λ c i n cs h. inserts cs (insert_element c i n cs).chunks c i n h refl;
  by_remove = λ c i cs h. removes cs (remove_element c i cs).chunks c i h refl;
  by_clear = λ c cs h. clears cs (clear_array c cs).chunks c h refl;
  by_resize = λ c i n cs h. resizes cs (resize_element c i n cs).chunks c i n h refl;
}
