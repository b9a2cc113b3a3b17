-- What edits of arrays do to legal chunks: they stay legal, and to take elements out needs no
-- more.
use Rattle.std.proofs.Common.{◌≡◌, ◌≢◌, ℕ, zero, suc, ◌+◌, ◌*◌, ◌/◌, ◌%◌, ◌<◌, ◌≤◌, true, false, ◌==◌, List, [], ◌∷◌, ◌++◌, Option, Some, None, length, get_or, set, take, drop, replicate, refl, sym, ap, ◌∙◌, subst, inl, inr, arith, ltb-false, length-append, length-take, length-drop, length-set}
use Rattle.std.specs.Prelude.{All, Bool, not, flat_map, insert, remove, is_none, nat_le, nat_lt}
use Rattle.std.proofs.lemmas.Bool.{cases_eq, cases_lt, ne_eqb}
use Rattle.std.proofs.lemmas.Bool.Decides.{nat_tests}
use Rattle.std.proofs.lemmas.List.{get_or_past}
use Rattle.std.proofs.lemmas.List.Edits.{length-insert}
use Rattle.std.proofs.lemmas.List.Elements.{All-nil, All-cons, All-head, All-tail, All-append, All-take, All-drop}
use Rattle.geos_terms.specs.declared.refusal.Refusal.{Refusal}
use Rattle.geos_terms.specs.declared.refusal.Refusal.TheVariants.{BadChunk, BadArray, BadElement}
use Rattle.geos_terms.specs.Refusals.{first_refusal}
use Rattle.geos_terms.specs.Bytes.{word, word_bytes}
use Rattle.geos_terms.specs.Chunks.{need, chunk_of, bytes_of, with_new, new_handle, resized}
use Rattle.geos_terms.specs.Arrays.{Array, arr, first_at, element_at, element, offsets, table, head_words, spelled, empty, new_length, with_element, without_element, with_element_bytes}
use Rattle.geos_terms.specs.ArrayEdits.{array_of, count_of, no_array, is_fixed, is_past, with_array, create_array, append_element, insert_element, remove_element, clear_array, resize_element}
use Rattle.geos_calls.specs.Legal.{AreBytes, IsChunk, AreChunks}
use Rattle.geos_terms.proofs.ArrayPlaces.{length-spelled, join-le, part-element}
use Rattle.geos_terms.proofs.ArrayReads.{Reads, reads}
use Rattle.geos_terms.proofs.ArraySpells.{first-varying, first-fixed, element-at, table-varying, table-fixed, length-head}
use Rattle.geos_terms.proofs.ArrayTests.{array-of}
use Rattle.geos_terms.proofs.ChunkItems.{known-bytes, need-least}
use Rattle.geos_terms.proofs.Joined.{join, join-split, take-join, drop-join}
use Rattle.geos_terms.proofs.JoinedEdits.{join-insert, join-remove, join-set}
use Rattle.geos_calls.proofs.LegalBytes.{bytes-zeros, bytes-part, bytes-resized}
use Rattle.geos_calls.proofs.LegalChunks.{KeepsChunks, NeedsNoMore, bytes_of-legal, with_new-legal, with_bytes-legal}
use Rattle.geos_terms.proofs.Needs.{need-with_bytes}
use Rattle.geos_calls.proofs.Passing.{none-here, some-known}

-- a number is a word
abbrev IsWord : ℕ → Type 0
IsWord w = w < 65536

-- Arrays as bytes

bytes-words : (ws : List ℕ) → All IsWord ws → AreBytes (flat_map word_bytes ws)
bytes-words [] h = All-nil (λ b. b < 256)
bytes-words (w ∷ ws) h =
    let small = All-head IsWord w ws h in
    All-cons (λ b. b < 256) (w % 256) (w / 256 ∷ flat_map word_bytes ws) (omega arith)
    (All-cons (λ b. b < 256) (w / 256) (flat_map word_bytes ws) (omega (arith, small)) (bytes-words ws (All-tail IsWord w ws h)))

offsets-small : (at : ℕ) (xs : List (List ℕ)) → at + length (join xs) < 65536 → All IsWord (offsets at xs)
offsets-small at [] h = All-nil IsWord
offsets-small at (x ∷ xs) h =
    let e = length-append x (join xs) in
    All-cons IsWord at (offsets (at + length x) xs) (omega (arith, h)) (offsets-small (at + length x) xs (omega (arith, h, e)))

table-small : (a : Array) → length (spelled a) < 65536 → All IsWord (table a)
table-small a small = elim (cases_eq a.element_size 0) [
  | inl e ↦ rw (table-varying a e) (let l = length-spelled a in offsets-small (first_at a) a.elements (omega (arith, small, l)))
  | inr ne ↦ rw (table-fixed a ne) (All-nil IsWord)
]

-- the encoding of an array that is small enough consists of bytes
pub bytes-spelled : (a : Array) → AreBytes (join a.elements) → length (spelled a) < 65536 → a.element_size < 65536
    → length a.elements < 65536 → AreBytes (spelled a)
unfolding spelled
bytes-spelled a are small size count =
    let zeros = All-cons IsWord 0 (8 ∷ table a) (omega arith) (All-cons IsWord 8 (table a) (omega arith) (table-small a small)) in
    let head = All-cons IsWord (length a.elements) (a.element_size ∷ (0 ∷ (8 ∷ table a))) count
    (All-cons IsWord a.element_size (0 ∷ (8 ∷ table a)) size zeros) in
    All-append (λ b. b < 256) (flat_map word_bytes (head_words a)) (join a.elements) (bytes-words (head_words a) head) are

-- Elements joined end to end

bytes-first : (xs : List (List ℕ)) (i : ℕ) → AreBytes (join xs) → AreBytes (join (take i xs))
bytes-first xs i h = subst AreBytes (take-join xs i (length (join (take i xs))) refl)
    (All-take (λ b. b < 256) (length (join (take i xs))) (join xs) h)

bytes-behind : (xs : List (List ℕ)) (i : ℕ) → AreBytes (join xs) → AreBytes (join (drop i xs))
bytes-behind xs i h = subst AreBytes (drop-join xs i (length (join (take i xs))) refl)
    (All-drop (λ b. b < 256) (length (join (take i xs))) (join xs) h)

bytes-insert : (xs : List (List ℕ)) (i : ℕ) (z : List ℕ) → AreBytes z → AreBytes (join xs) → AreBytes (join (insert xs i z))
bytes-insert xs i z new h =
    rw (join-insert xs i z) (All-append (λ b. b < 256) (join (take i xs)) (z ++ join (drop i xs)) (bytes-first xs i h)
    (All-append (λ b. b < 256) z (join (drop i xs)) new (bytes-behind xs i h)))

bytes-remove : (xs : List (List ℕ)) (i : ℕ) → AreBytes (join xs) → AreBytes (join (remove xs i))
bytes-remove xs i h = rw (join-remove xs i) (All-append (λ b. b < 256) (join (take i xs)) (join (drop (suc i) xs))
    (bytes-first xs i h) (bytes-behind xs (suc i) h))

bytes-set : (xs : List (List ℕ)) (i : ℕ) (z : List ℕ) → i < length xs → AreBytes z → AreBytes (join xs) → AreBytes (join (set xs i z))
bytes-set xs i z lt new h =
    rw (join-set xs i z lt) (All-append (λ b. b < 256) (join (take i xs)) (z ++ join (drop (suc i) xs)) (bytes-first xs i h)
    (All-append (λ b. b < 256) z (join (drop (suc i) xs)) new (bytes-behind xs (suc i) h)))

length-joined : (xs : List (List ℕ)) (i : ℕ) → length (join xs) ≡ length (join (take i xs)) + length (join (drop i xs))
length-joined xs i = ap length (join-split xs i) ∙ length-append (join (take i xs)) (join (drop i xs))

length-join_insert : (xs : List (List ℕ)) (i : ℕ) (z : List ℕ) → length (join (insert xs i z)) ≡ length (join xs) + length z
length-join_insert xs i z =
    let e = ap length (join-insert xs i z) in
    omega (arith, e, length-joined xs i, length-append (join (take i xs)) (z ++ join (drop i xs)), length-append z (join (drop i xs)))

length-join_remove : (xs : List (List ℕ)) (i : ℕ) → length (join (remove xs i)) ≤ length (join xs)
length-join_remove xs i =
    let e = ap length (join-remove xs i) in
    let l = join-le xs i in
    let m = length-joined xs i in
    let n = length-joined xs (suc i) in
    let rest = behind-less xs i in omega (arith, e, m, rest, length-append (join (take i xs)) (join (drop (suc i) xs)))
  where
    behind-less : (ys : List (List ℕ)) (j : ℕ) → length (join (drop (suc j) ys)) ≤ length (join (drop j ys))
    behind-less [] zero = omega arith
    behind-less [] (suc j) = omega arith
    behind-less (y ∷ ys) zero = let a = length-append y (join ys) in omega (arith, a)
    behind-less (y ∷ ys) (suc j) = behind-less ys j

removed-count : (xs : List (List ℕ)) (i : ℕ) → length (remove xs i) ≤ length xs
removed-count xs i = omega (arith, length-append (take i xs) (drop (suc i) xs), length-take i xs, length-drop i xs, length-drop (suc i) xs)

length-empty : (k : ℕ) → length (spelled (empty k)) ≡ 8
length-empty k =
    let l = length-spelled (empty k) in
    elim (cases_eq k 0) [
      | inl e ↦ (let f = first-varying (empty k) e in omega (arith, l, f))
      | inr ne ↦
          (let f = first-fixed (empty k) ne in omega (arith, l, f))
    ]

-- Arrays in legal chunks

-- a handle's chunk is an array
record IsArray (cs : List (Option (List ℕ))) (c : ℕ) : Type 0 where
  bytes : List ℕ
  array : Array
  there : chunk_of cs c ≡ Some bytes
  is : arr bytes ≡ Some array

-- where a call on an array is not refused, there is one
found : (cs : List (Option (List ℕ))) (c : ℕ) (more : List (Bool × Refusal)) → first_refusal (no_array cs c ++ more) ≡ None
    → IsArray cs c × (first_refusal more ≡ None)
found cs c more h =
    let first = none-here (is_none (chunk_of cs c)) BadChunk (first_refusal ((is_none (arr (bytes_of cs c)), BadArray) ∷ more)) h in
    let second = none-here (is_none (arr (bytes_of cs c))) BadArray (first_refusal more) first.1 in
    let chunk = some-known (chunk_of cs c) first.0 in
    let array = some-known (arr (bytes_of cs c)) second.0 in
    (record { bytes = chunk.0; array = array.0; there = chunk.1; is = ap arr (sym (known-bytes cs c chunk.0 chunk.1)) ∙ array.1 }, second.1)

module _ (cs : List (Option (List ℕ))) (c : ℕ) (h : IsArray cs c) (bytes_all : All IsChunk cs) where
  a : Array
  a = h.array

  are : AreBytes h.bytes
  are = subst AreBytes (known-bytes cs c h.bytes h.there) (bytes_of-legal cs c bytes_all)

  small : (k : ℕ) → get_or h.bytes k 0 < 256
  small k = elim (cases_lt k (length h.bytes)) [ inl l ↦ are k 0 l | inr l ↦ (let e = get_or_past h.bytes k 0 l in omega (arith, e)) ]

  read : Reads h.bytes h.array
  read = reads h.bytes h.array small h.is

  is-word : (at : ℕ) → word h.bytes at < 65536
  unfolding word
  is-word at = let x = small at in let y = small (at + 1) in omega (arith, x, y)

  size-small : h.array.element_size < 65536
  size-small = let e = read.spells.size in let s = is-word 2 in omega (arith, e, s)

  count-small : length h.array.elements < 65536
  count-small = let e = read.spells.count in let s = is-word 0 in omega (arith, e, s)

  joined : AreBytes (join h.array.elements)
  joined = subst AreBytes read.spells.rest (All-drop (λ b. b < 256) (first_at h.array) h.bytes are)

  -- if the elements have one size, the bytes after the header are at least as many as the elements
  few : h.array.element_size ≢ 0 → length h.array.elements ≤ length (join h.array.elements)
  few some =
      let n = length h.array.elements in
      let k = h.array.element_size in
      let e = read.equal some n (omega arith) in
      let f = first-fixed h.array some in
      let at = element-at h.array n in
      let whole = join-le h.array.elements n in
      let m : n ≤ n * k = mul-some n k some in omega (arith, e, f, at, whole, m)
    where
      mul-some : (n k : ℕ) → k ≢ 0 → n ≤ n * k
      mul-some zero k some = omega arith
      mul-some (suc n) k some = let r = mul-some n k some in let s : suc n * k ≡ k + n * k = omega arith in omega (arith, r, s, some)

  -- with another array in the place of one
  put : (b : Array) → AreBytes (join b.elements) → b.element_size < 65536 → (length (spelled b) ≤ 65520 → length b.elements < 65536)
      → need (with_array cs c b) ≤ 65520 → AreChunks cs → AreChunks (with_array cs c b)
  put b bytes size count fits legal =
      let l = need-least cs c h.bytes (spelled b) h.there in
      let short : length (spelled b) ≤ 65520 = omega (arith, l, fits) in
      with_bytes-legal cs c (spelled b) (bytes-spelled b bytes (omega (arith, short)) size (count short)) legal

  put-less : (b : Array) → length (spelled b) ≤ length h.bytes → need (with_array cs c b) ≤ need cs
  put-less b less = need-with_bytes cs c (spelled b) (let e = ap length (known-bytes cs c h.bytes h.there) in omega (arith, e, less))

  same : array_of cs c ≡ h.array
  same = array-of cs c h.bytes h.array h.there h.is

  inserted : (i n : ℕ) → i ≤ length (array_of cs c).elements → need (with_array cs c (with_element (array_of cs c) i n)) ≤ 65520
      → AreChunks cs → AreChunks (with_array cs c (with_element (array_of cs c) i n))
  inserted i n = rw same (λ fits small legal.
      let z : List ℕ = replicate (new_length h.array n) 0 in
      put (with_element h.array i n) (bytes-insert h.array.elements i z (bytes-zeros (new_length h.array n)) joined)
      size-small (λ short. count fits short) small legal)
    where
      count : i ≤ length h.array.elements → length (spelled (with_element h.array i n)) ≤ 65520
          → length (insert h.array.elements i (replicate (new_length h.array n) 0)) < 65536
      count fits short =
          let b = with_element h.array i n in
          let long = length-insert h.array.elements i (replicate (new_length h.array n) 0) fits in
          let l = length-spelled b in
          let j = length-join_insert h.array.elements i (replicate (new_length h.array n) 0) in
          elim (cases_eq h.array.element_size 0) [
            | inl e ↦ (let f = first-varying b e in omega (arith, long, l, f, short))
            | inr ne ↦ (let f = first-fixed b ne in let m = few ne in omega (arith, long, l, f, j, m, short))
          ]

  removed : (i : ℕ) → AreChunks cs → need (with_array cs c (without_element (array_of cs c) i)) ≤ 65520
      → AreChunks (with_array cs c (without_element (array_of cs c) i))
  removed i = rw same (λ legal fits.
      let l = removed-count h.array.elements i in
      let n = count-small in
      put (without_element h.array i) (bytes-remove h.array.elements i joined) size-small (λ short. omega (arith, l, n)) fits legal)

  removed-less : (i : ℕ) → need (with_array cs c (without_element (array_of cs c) i)) ≤ need cs
  removed-less i = rw same (put-less (without_element h.array i) (less i))
    where
      less : (i : ℕ) → length (spelled (without_element h.array i)) ≤ length h.bytes
      less i =
          let b = without_element h.array i in
          let l = length-spelled b in
          let j = length-join_remove h.array.elements i in
          let n = removed-count h.array.elements i in
          let whole = ap length read.spells.rest in
          let fits = read.spells.fits in
          let d = length-drop (first_at h.array) h.bytes in
          elim (cases_eq h.array.element_size 0) [
            | inl e ↦ (let f = first-varying b e in let g = first-varying h.array e in omega (arith, l, j, n, whole, fits, d, f, g))
            | inr ne ↦ (let f = first-fixed b ne in let g = first-fixed h.array ne in omega (arith, l, j, whole, fits, d, f, g))
          ]

  cleared : AreChunks cs → need (with_array cs c (empty (array_of cs c).element_size)) ≤ 65520
      → AreChunks (with_array cs c (empty (array_of cs c).element_size))
  cleared = rw same (λ legal fits. put (empty h.array.element_size) (All-nil (λ b. b < 256)) size-small (λ short. omega arith) fits legal)

  cleared-less : need (with_array cs c (empty (array_of cs c).element_size)) ≤ need cs
  cleared-less = rw same (put-less (empty h.array.element_size) (let l = length-empty h.array.element_size in
      let fits = read.spells.fits in let f = length-head h.array in omega (arith, l, fits, f)))

  resized-array : (i n : ℕ) → (array_of cs c).element_size ≡ 0 → i < length (array_of cs c).elements
      → need (with_array cs c (with_element_bytes (array_of cs c) i (resized (element (array_of cs c) i) n))) ≤ 65520 → AreChunks cs
      → AreChunks (with_array cs c (with_element_bytes (array_of cs c) i (resized (element (array_of cs c) i) n)))
  resized-array i n = rw same (λ varying lt fits legal.
      let x = element h.array i in
      let l = length-set h.array.elements i (resized x n) in
      let m = count-small in
      let x_bytes : AreBytes x = subst AreBytes (part-element h.bytes h.array i read lt) (bytes-part h.bytes (element_at h.array i) (length x) are) in
      put (with_element_bytes h.array i (resized x n)) (bytes-set h.array.elements i (resized x n) lt (bytes-resized x n x_bytes) joined)
      size-small (λ short. omega (arith, l, m)) fits legal)

-- The edits

pub create-kept : (k : ℕ) → k < 65536 → KeepsChunks (create_array k)
create-kept k word cs legal passed fits =
    with_bytes-legal (with_new cs 8) (new_handle cs) (spelled (empty k))
    (bytes-spelled (empty k) (All-nil (λ b. b < 256)) (let l = length-empty k in omega (arith, l)) word (omega arith)) (with_new-legal cs 8 legal)

pub append-kept : (c n : ℕ) → KeepsChunks (append_element c n)
append-kept c n cs legal passed fits =
    let f = found cs c [] passed in inserted cs c f.0 legal.bytes (count_of cs c) n (omega arith) fits legal

pub insert-kept : (c i n : ℕ) → KeepsChunks (insert_element c i n)
insert-kept c i n cs legal passed fits =
    let f = found cs c ((nat_lt (count_of cs c) i, BadElement) ∷ []) passed in
    let past = ltb-false (count_of cs c) i (none-here (nat_lt (count_of cs c) i) BadElement None f.1).0 in
    inserted cs c f.0 legal.bytes i n past fits legal

pub remove-kept : (c i : ℕ) → KeepsChunks (remove_element c i)
remove-kept c i cs legal passed fits = let f = found cs c (is_past cs c i ∷ []) passed in removed cs c f.0 legal.bytes i legal fits

pub remove-less : (c i : ℕ) → NeedsNoMore (remove_element c i)
remove-less c i cs bytes passed = let f = found cs c (is_past cs c i ∷ []) passed in removed-less cs c f.0 bytes i

pub clear-kept : (c : ℕ) → KeepsChunks (clear_array c)
clear-kept c cs legal passed fits = let f = found cs c [] passed in cleared cs c f.0 legal.bytes legal fits

pub clear-less : (c : ℕ) → NeedsNoMore (clear_array c)
clear-less c cs bytes passed = let f = found cs c [] passed in cleared-less cs c f.0 bytes

pub resize-kept : (c i n : ℕ) → KeepsChunks (resize_element c i n)
resize-kept c i n cs legal passed fits =
    let f = found cs c (is_fixed cs c ∷ (is_past cs c i ∷ [])) passed in
    let size = (array_of cs c).element_size in
    let m = count_of cs c in
    let first = none-here (not (size == 0)) BadArray (first_refusal (is_past cs c i ∷ [])) f.1 in
    let second = none-here (nat_le m i) BadElement None first.1 in
    resized-array cs c f.0 legal.bytes i n (varies size first.0) (within m i second.0) fits legal
  where
    varies : (k : ℕ) → not (k == 0) ≡ false → k ≡ 0
    varies k e = elim (cases_eq k 0) [ inl none ↦ none | inr ne ↦ absurd (let x : true ≡ false = ap not (sym (ne_eqb k 0 ne)) ∙ e in cc) ]

    within : (m i : ℕ) → nat_le m i ≡ false → i < m
    within m i e = grind (arith, nat_tests)
