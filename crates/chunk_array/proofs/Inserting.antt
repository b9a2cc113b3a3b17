-- Arrays with one element more.
use Rattle.std.proofs.Common.{◌≡◌, ◌≢◌, ℕ, suc, ◌+◌, ◌-◌, ◌*◌, ◌<◌, ◌≤◌, List, ◌++◌, length, take, drop, get_or, replicate, refl, ap, sym, ◌∙◌, inl, inr, arith, length-append, length-take, length-drop}
use Rattle.std.proofs.lemmas.Bool.{cases_lt, cases_eq, eq-eqb, ne_eqb}
use Rattle.std.proofs.lemmas.List.{get_or-take, get_or-drop, get_or_append_left, get_or-append_right, length-replicate}
use Rattle.std.proofs.lemmas.List.Edits.{length-insert}
use Rattle.std.proofs.lemmas.Grind.{same_number_lists}
use Rattle.lmem_raw.specs.Bytes.{part}
use Rattle.geos_terms.specs.Bytes.{word, with_word}
use Rattle.geos_terms.specs.Chunks.{with_zeros}
use Rattle.geos_terms.specs.Arrays.{Array, first_at, element_at, new_length, with_element, spelled}
use Rattle.geos_terms.proofs.Words.{word-same, word-other, word-bytes, byte-other, length-with_word}
use Rattle.geos_terms.proofs.Resizes.{length-with_zeros, length-part}
use Rattle.geos_terms.proofs.Joined.{join, take-join}
use Rattle.geos_terms.proofs.JoinedEdits.{join-insert, take-insert, join-insert_behind, drop-front, zeros-front, zeros-behind}
use Rattle.geos_terms.proofs.ArraySpells.{spells, first-varying, first-fixed, element-at}
use Rattle.geos_terms.proofs.ArrayReads.{Reads}
use Rattle.geos_terms.proofs.ArrayPlaces.{element-bounds, drop-elements, length-spelled}
use Rattle.chunk_array.specs.Tables.{offset, OpensTable}

pub new-varying : (a : Array) (n : ℕ) → a.element_size ≡ 0 → new_length a n ≡ n
new-varying a n e = rw (eq-eqb a.element_size 0 e) refl

pub new-fixed : (a : Array) (n : ℕ) → a.element_size ≢ 0 → new_length a n ≡ a.element_size
new-fixed a n ne = rw (ne_eqb a.element_size 0 ne) refl

-- the bytes of the first elements
pub front-elements : (bytes : List ℕ) (a : Array) (i : ℕ) → Reads bytes a
    → part bytes (first_at a) (element_at a i - first_at a) ≡ join (take i a.elements)
front-elements bytes a i r =
    ap (take (element_at a i - first_at a)) r.spells.rest ∙ take-join a.elements i (element_at a i - first_at a) (omega (arith, element-at a i))

pub first-le : (a : Array) (i : ℕ) → first_at a ≤ element_at a i
first-le a i = omega (arith, element-at a i)

-- a list's first bytes are the same, whatever follows them
pub front-byte : (bs zs : List ℕ) (at k : ℕ) → k < at → at ≤ length bs → get_or (take at bs ++ zs) k 0 ≡ get_or bs k 0
front-byte bs zs at k h fits = get_or_append_left (take at bs) zs 0 k (omega (arith, length-take at bs)) ∙ get_or-take at bs k 0 h

pub front-word : (bs zs : List ℕ) (at k : ℕ) → k + 2 ≤ at → at ≤ length bs → word (take at bs ++ zs) k ≡ word bs k
front-word bs zs at k h fits = word-bytes bs (take at bs ++ zs) k k (front-byte bs zs at k (omega arith) fits)
    (front-byte bs zs at (k + 1) (omega arith) fits)

-- where elements begin after an insertion: those before the new one, and those after it
pub begins-before : (a : Array) (i j n : ℕ) → a.element_size ≡ 0 → i ≤ length a.elements → j ≤ i
    → element_at (with_element a i n) j ≡ element_at a j + 2
begins-before a i j n none fits h =
    let z : List ℕ = replicate (new_length a n) 0 in
    let b = with_element a i n in
    let same = ap (λ xs. length (join xs)) (take-insert a.elements i j z h fits) in
    omega (arith, same, element-at a j, element-at b j, first-varying a none, first-varying b none, length-insert a.elements i z fits)

pub begins-behind : (a : Array) (i j n : ℕ) → a.element_size ≡ 0 → i ≤ length a.elements → i ≤ j
    → element_at (with_element a i n) (suc j) ≡ element_at a j + (n + 2)
begins-behind a i j n none fits h =
    let z : List ℕ = replicate (new_length a n) 0 in
    let b = with_element a i n in
    let long = length-replicate {A = ℕ} (new_length a n) 0 in
    omega (
      arith,
      join-insert_behind a.elements i j z h fits,
      long,
      new-varying a n none,
      element-at a j,
      element-at b (suc j),
      first-varying a none,
      first-varying b none,
      length-insert a.elements i z fits,
    )

-- the bytes after an opened table
open-rest : (old new : List ℕ) (count i at n : ℕ) → OpensTable old new count i at n → 8 + 2 * count ≤ at → at + 2 ≤ length old
    → drop (8 + 2 * (count + 1)) new ≡ part old (8 + 2 * count) (at - (8 + 2 * count)) ++ drop (at + 2) old
open-rest old new count i at n o table room =
    let t = 8 + 2 * count in
    let xs = part old t (at - t) in
    let ys = drop (at + 2) old in
    let lx : length xs ≡ at - t = length-part old t (at - t) (omega arith) in
    let ld = length-drop (8 + 2 * (count + 1)) new in
    let ly = length-drop (at + 2) old in
    let la = length-append xs ys in
    same_number_lists (drop (8 + 2 * (count + 1)) new) (xs ++ ys) (omega (arith, o.long, lx, ld, ly, la)) (λ k h.
    let k_in : k < length old - (t + 2) = omega (arith, h, o.long, ld) in
    get_or-drop (8 + 2 * (count + 1)) new k 0 ∙ (elim (cases_lt k (at - t)) [
      | inl l ↦ o.middle (8 + 2 * (count + 1) + k) (t + k) (omega arith) (omega arith) (omega arith)
          ∙ sym (get_or_append_left xs ys 0 k (omega (arith, lx)) ∙ get_or-take (at - t) (drop t old) k 0 l ∙ get_or-drop t old k 0)
      | inr g ↦ (let same : at + 2 + (k - (at - t)) ≡ 8 + 2 * (count + 1) + k = omega arith in
          o.rest (8 + 2 * (count + 1) + k) (8 + 2 * (count + 1) + k) refl (omega arith) (omega arith)
          ∙ sym (get_or-append_right xs ys (at - t) k 0 lx g ∙ get_or-drop (at + 2) old (k - (at - t)) 0 ∙ ap (λ q. get_or old q 0) same))
    ]))

-- a word at the front changes no byte after it
pub drop-word : (b : List ℕ) (w n : ℕ) → 2 ≤ n → drop n (with_word b 0 w) ≡ drop n b
drop-word b w n h =
    let l = length-with_word b 0 w in
    same_number_lists (drop n (with_word b 0 w)) (drop n b) (omega (arith, l, length-drop n (with_word b 0 w), length-drop n b)) (λ k g.
    get_or-drop n (with_word b 0 w) k 0 ∙ byte-other b 0 w (n + k) (inr (omega arith)) ∙ sym (get_or-drop n b k 0))

-- an element put into an array whose sizes vary
pub inserted-varying : (before old new bytes : List ℕ) (a : Array) (i n : ℕ) → Reads before a → a.element_size ≡ 0 → i ≤ length a.elements
    → old ≡ with_zeros before (element_at a i) (n + 2) → OpensTable old new (length a.elements) i (element_at a i) n
    → bytes ≡ with_word new 0 (length a.elements + 1)
    → length a.elements + 1 < 65536 → ((k : ℕ) → get_or bytes k 0 < 256) → bytes ≡ spelled (with_element a i n)
inserted-varying before old new bytes a i n r none fits made o counted few small =
    let count = length a.elements in
    let at = element_at a i in
    let b = with_element a i n in
    let z : List ℕ = replicate (new_length a n) 0 in
    let bounds = element-bounds before a i r in
    let first = first-varying a none in
    let le = first-le a i in
    let more : length b.elements ≡ count + 1 = length-insert a.elements i z fits in
    let first_b = first-varying b none in
    let long_old : length old ≡ length before + (n + 2) = ap length made ∙ length-with_zeros before at (n + 2) bounds.1 in
    let long : length bytes ≡ length new = ap length counted ∙ length-with_word new 0 (count + 1) in
    let head : (k : ℕ) → 2 ≤ k → k + 2 ≤ 8 → word bytes k ≡ word before k =
    (λ k l h. ap (λ x. word x k) counted ∙ word-other new 0 (count + 1) k (inr (omega arith))
    ∙ word-bytes old new k k (o.head k (omega arith)) (o.head (k + 1) (omega arith)) ∙ ap (λ x. word x k) made
    ∙ front-word before (replicate (n + 2) 0 ++ drop at before) at k (omega (arith, bounds.0)) bounds.1) in
    let here : (j : ℕ) → offset bytes j ≡ offset new j = (λ j. ap (λ x. offset x j) counted
    ∙ word-other new 0 (count + 1) (8 + 2 * j) (inr (omega arith))) in
    let was : (j : ℕ) → j < count → offset old j ≡ element_at a j = (λ j h. ap (λ x. offset x j) made
    ∙ front-word before (replicate (n + 2) 0 ++ drop at before) at (8 + 2 * j) (omega (arith, first, le)) bounds.1 ∙ r.spells.offsets none j h) in
    spells bytes b (record {
      small = small;
      count = ap (λ x. word x 0) counted ∙ word-same new 0 (count + 1) few (omega (arith, o.long, long_old)) ∙ sym more;
      size = head 2 (omega arith) (omega arith) ∙ r.spells.size;
      zero = head 4 (omega arith) (omega arith) ∙ r.spells.zero;
      eight = head 6 (omega arith) (omega arith) ∙ r.spells.eight;
      offsets = (λ e j h. here j ∙ (elim (cases_lt j i) [
        | inl l ↦ o.before j l ∙ ap (λ x. x + 2) (was j (omega arith)) ∙ sym (begins-before a i j n none fits (omega arith))
        | inr g ↦ elim (cases_eq j i) [
          | inl same ↦ ap (offset new) same ∙ o.here ∙ sym (begins-before a i i n none fits (omega arith)) ∙ ap (element_at b) (sym same)
          | inr ne ↦ (let back : j - 1 + 1 ≡ j = omega arith in let front : suc (j - 1) ≡ j = omega arith in
              let l : j - 1 < count = omega (arith, h, more) in
              ap (offset new) (sym back) ∙ o.behind (j - 1) (omega arith) l ∙ ap (λ x. x + (n + 2)) (was (j - 1) l)
              ∙ sym (begins-behind a i (j - 1) n none fits (omega arith)) ∙ ap (element_at b) front)
        ]
      ]));
      fits = omega (arith, first_b, more, long, o.long, long_old, first, le, bounds.1);
      rest = ap (λ m. drop m bytes) (first_b ∙ ap (λ m. 8 + 2 * m) more) ∙ ap (drop (8 + 2 * (count + 1))) counted
          ∙ drop-word new (count + 1) (8 + 2 * (count + 1)) (omega arith)
          ∙ open-rest old new count i at n o (omega (arith, first, le)) (omega (arith, long_old, bounds.1))
          ∙ ap (λ t. part old t (at - t) ++ drop (at + 2) old) (sym first) ∙ ap (λ x. part x (first_at a) (at - first_at a) ++ drop (at + 2) x) made
          ∙ ap (λ xs. xs ++ drop (at + 2) (with_zeros before at (n + 2))) (zeros-front before (first_at a) at (n + 2) le bounds.1
          ∙ front-elements before a i r)
          ∙ ap (λ xs. join (take i a.elements) ++ xs) (zeros-behind before at 2 n bounds.1
          ∙ ap (λ m. replicate m 0 ++ drop at before) (sym (new-varying a n none)) ∙ ap (λ xs. z ++ xs) (drop-elements before a i r))
          ∙ sym (join-insert a.elements i z);
    })

-- an element put into an array of one size
pub inserted-fixed : (before old bytes : List ℕ) (a : Array) (i n : ℕ) → Reads before a → a.element_size ≢ 0 → i ≤ length a.elements
    → old ≡ with_zeros before (element_at a i) a.element_size → bytes ≡ with_word old 0 (length a.elements + 1)
    → length a.elements + 1 < 65536 → ((k : ℕ) → get_or bytes k 0 < 256) → bytes ≡ spelled (with_element a i n)
inserted-fixed before old bytes a i n r some fits made counted few small =
    let count = length a.elements in
    let at = element_at a i in
    let b = with_element a i n in
    let k = a.element_size in
    let z : List ℕ = replicate (new_length a n) 0 in
    let bounds = element-bounds before a i r in
    let first = first-fixed a some in
    let le = first-le a i in
    let more : length b.elements ≡ count + 1 = length-insert a.elements i z fits in
    let first_b = first-fixed b some in
    let long_old : length old ≡ length before + k = ap length made ∙ length-with_zeros before at k bounds.1 in
    let long : length bytes ≡ length old = ap length counted ∙ length-with_word old 0 (count + 1) in
    let head : (q : ℕ) → 2 ≤ q → q + 2 ≤ 8 → word bytes q ≡ word before q =
    (λ q l h. ap (λ x. word x q) counted ∙ word-other old 0 (count + 1) q (inr (omega arith)) ∙ ap (λ x. word x q) made
    ∙ front-word before (replicate k 0 ++ drop at before) at q (omega (arith, bounds.0)) bounds.1) in
    spells bytes b (record {
      small = small;
      count = ap (λ x. word x 0) counted ∙ word-same old 0 (count + 1) few (omega (arith, long_old, bounds.1, bounds.0)) ∙ sym more;
      size = head 2 (omega arith) (omega arith) ∙ r.spells.size;
      zero = head 4 (omega arith) (omega arith) ∙ r.spells.zero;
      eight = head 6 (omega arith) (omega arith) ∙ r.spells.eight;
      offsets = (λ e j h. absurd (some e));
      fits = omega (arith, first_b, long, long_old, bounds.1, bounds.0);
      rest = ap (λ m. drop m bytes) first_b ∙ ap (drop 8) counted ∙ drop-word old (count + 1) 8 (omega arith)
          ∙ ap (drop 8) made ∙ drop-front before (replicate k 0 ++ drop at before) 8 at bounds.0 bounds.1
          ∙ ap (λ xs. xs ++ (replicate k 0 ++ drop at before)) (ap (λ t. part before t (at - t)) (sym first) ∙ front-elements before a i r)
          ∙ ap (λ m. join (take i a.elements) ++ (replicate m 0 ++ drop at before)) (sym (new-fixed a n some))
          ∙ ap (λ xs. join (take i a.elements) ++ (z ++ xs)) (drop-elements before a i r)
          ∙ sym (join-insert a.elements i z);
    })

-- what the new array takes
pub length-inserted : (before : List ℕ) (a : Array) (i n : ℕ) → Reads before a → i ≤ length a.elements
    → length (spelled (with_element a i n)) ≡ length before + (first_at (with_element a i n) - first_at a + new_length a n)
length-inserted before a i n r fits =
    let z : List ℕ = replicate (new_length a n) 0 in
    let b = with_element a i n in
    let s = length-spelled b in
    let j = ap length (join-insert a.elements i z) in
    let l1 = length-append (join (take i a.elements)) (z ++ join (drop i a.elements)) in
    let l2 = length-append z (join (drop i a.elements)) in
    let l3 = length-replicate {A = ℕ} (new_length a n) 0 in
    let whole = ap length (drop-elements before a i r) in
    let ld = length-drop (element_at a i) before in
    let e = element-at a i in
    let within = element-bounds before a i r in
    let more = length-insert a.elements i z fits in
    let order : first_at a ≤ first_at b = (elim (cases_eq a.element_size 0) [
      | inl none ↦ omega (arith, first-varying a none, first-varying b none, more)
      | inr some ↦ omega (arith, first-fixed a some, first-fixed b some)
    ]) in
    omega (arith, s, j, l1, l2, l3, whole, ld, e, within.1, order)
