-- Arrays with one element less.
use Rattle.std.proofs.Common.{◌≡◌, ◌≢◌, ℕ, suc, ◌+◌, ◌-◌, ◌*◌, ◌<◌, ◌≤◌, List, ◌++◌, length, take, drop, get_or, refl, ap, sym, ◌∙◌, inl, inr, arith, length-drop}
use Rattle.std.proofs.lemmas.Bool.{cases_lt}
use Rattle.std.proofs.lemmas.List.{get_or-drop}
use Rattle.std.proofs.lemmas.List.Edits.{length-remove}
use Rattle.std.proofs.lemmas.Grind.{same_number_lists}
use Rattle.lmem_raw.specs.Bytes.{part}
use Rattle.geos_terms.specs.Bytes.{word, with_word}
use Rattle.geos_terms.specs.Chunks.{without_part}
use Rattle.geos_terms.specs.Arrays.{Array, first_at, element_at, element, without_element, spelled}
use Rattle.geos_terms.proofs.Words.{word-same, word-other, word-bytes, byte-other, length-with_word, part-shifted}
use Rattle.geos_terms.proofs.Joined.{join}
use Rattle.geos_terms.proofs.JoinedEdits.{join-remove, take-remove, join-remove_behind, drop-front, length-without}
use Rattle.geos_terms.proofs.ArraySpells.{spells, first-varying, first-fixed, element-at}
use Rattle.geos_terms.proofs.ArrayReads.{Reads}
use Rattle.geos_terms.proofs.ArrayPlaces.{element-bounds, element-ends, drop-elements}
use Rattle.chunk_array.specs.Tables.{offset, ClosesTable}
use Rattle.chunk_array.proofs.Inserting.{front-word, front-elements, first-le, drop-word}

-- where elements begin after a removal: those before the removed one, and those after it
pub left-before : (a : Array) (i j : ℕ) → a.element_size ≡ 0 → i < length a.elements → j ≤ i → element_at (without_element a i) j + 2 ≡ element_at a j
left-before a i j none fits h =
    let b = without_element a i in
    let count = length-remove a.elements i fits in
    let same = ap (λ xs. length (join xs)) (take-remove a.elements i j h (omega arith)) in
    omega (arith, same, element-at a j, element-at b j, first-varying a none, first-varying b none, count)

pub left-behind : (a : Array) (i j : ℕ) → a.element_size ≡ 0 → i < length a.elements → i ≤ j
    → element_at (without_element a i) j + (length (element a i) + 2) ≡ element_at a (suc j)
left-behind a i j none fits h =
    let b = without_element a i in
    omega (
      arith,
      join-remove_behind a.elements i j h fits,
      element-at a (suc j),
      element-at b j,
      first-varying a none,
      first-varying b none,
      length-remove a.elements i fits,
    )

-- two lists that differ only before an offset are equal after it
pub same-behind : (xs ys : List ℕ) (n : ℕ) → length xs ≡ length ys → ((k : ℕ) → n ≤ k → k < length ys → get_or xs k 0 ≡ get_or ys k 0)
    → drop n xs ≡ drop n ys
same-behind xs ys n long same =
    let lx = length-drop n xs in
    let ly = length-drop n ys in
    same_number_lists (drop n xs) (drop n ys) (omega (arith, long, lx, ly)) (λ k h. get_or-drop n xs k 0
    ∙ same (n + k) (omega arith) (omega (arith, h, lx, long)) ∙ sym (get_or-drop n ys k 0))

-- an element taken out of an array whose sizes vary
pub removed-varying : (before new counted bytes : List ℕ) (a : Array) (i n count less : ℕ) → Reads before a
    → a.element_size ≡ 0 → i < length a.elements → n ≡ length (element a i) → count ≡ length a.elements
    → ClosesTable before new count i (element_at a i) n → counted ≡ with_word new 0 less → less + 1 ≡ count → less < 65536
    → ((k : ℕ) → get_or bytes k 0 < 256) → bytes ≡ without_part counted (element_at a (i + 1) - (n + 2)) (n + 2)
    → bytes ≡ spelled (without_element a i)
removed-varying before new counted bytes a i n count less r none fits n_is count_is o counts less_is few small made =
    let at = element_at a i in
    let b = without_element a i in
    let cut = element_at a (i + 1) - (n + 2) in
    let ends = element-ends a i fits in
    let end : element_at a (i + 1) ≡ at + n = omega (arith, ends, n_is) in
    let bounds = element-bounds before a (i + 1) r in
    let first = first-varying a none in
    let le = first-le a i in
    let left = length-remove a.elements i fits in
    let first_b = first-varying b none in
    let long_counted : length counted ≡ length new = ap length counts ∙ length-with_word new 0 less in
    let cut_in : cut + (n + 2) ≤ length counted = omega (arith, end, bounds.1, o.long, long_counted, first, le) in
    let long : length bytes ≡ length counted - (n + 2) = ap length made ∙ length-without counted cut (n + 2) cut_in in
    let head_fits : 8 + 2 * less ≤ cut = omega (arith, end, first, le, less_is, count_is) in
    let front : (k : ℕ) → k + 2 ≤ cut → word bytes k ≡ word counted k =
    (λ k h. ap (λ x. word x k) made ∙ front-word counted (drop (cut + (n + 2)) counted) cut k h (omega arith)) in
    let behind_count : (k : ℕ) → 2 ≤ k → word counted k ≡ word new k = (λ k h. ap (λ x. word x k) counts
    ∙ word-other new 0 less k (inr (omega arith))) in
    let head : (k : ℕ) → 2 ≤ k → k + 2 ≤ 8 → word bytes k ≡ word before k =
    (λ k l h. front k (omega arith) ∙ behind_count k l ∙ word-bytes before new k k (o.head k (omega arith)) (o.head (k + 1) (omega arith))) in
    let here : (j : ℕ) → j < less → offset bytes j ≡ offset new j = (λ j h. front (8 + 2 * j) (omega arith)
    ∙ behind_count (8 + 2 * j) (omega arith)) in
    let counted_byte : (k : ℕ) → 2 ≤ k → get_or counted k 0 ≡ get_or new k 0 = (λ k h. ap (λ x. get_or x k 0) counts
    ∙ byte-other new 0 less k (inr (omega arith))) in
    let t = 8 + 2 * less in
    let m = cut - t in
    let up : t + 2 ≡ first_at a = omega (arith, first, less_is, count_is) in
    let width : m ≡ at - first_at a = omega (arith, end, up, ends, head_fits) in
    let kept : part counted t m ≡ part before (first_at a) m =
    part-shifted before counted 2 0 (8 + 2 * count) at t (first_at a) m (λ j k e g h. counted_byte j (omega arith)
    ∙ o.middle j k e g h) (omega (arith, up)) (omega (arith, first, count_is)) (omega (arith, width, le))
    (omega (arith, width, le, bounds.1, end)) (omega (arith, long_counted, o.long, bounds.1, end, cut_in)) in
    let back : drop (cut + (n + 2)) counted ≡ drop (element_at a (suc i)) before =
    ap (λ q. drop q counted) (let q : cut + (n + 2) ≡ at + n = omega (arith, end, cut_in, first, le) in q)
    ∙ same-behind counted before (at + n) (long_counted ∙ o.long) (λ k l h. counted_byte k (omega (arith, first, le))
    ∙ o.rest k k refl (omega arith) h)
    ∙ ap (λ q. drop q before) (sym end ∙ ap (element_at a) (let q : i + 1 ≡ suc i = omega arith in q)) in
    spells bytes b (record {
      small = small;
      count = front 0 (omega arith) ∙ ap (λ x. word x 0) counts ∙ word-same new 0 less few (omega (arith, o.long, bounds.1, bounds.0))
          ∙ omega (arith, left, less_is, count_is);
      size = head 2 (omega arith) (omega arith) ∙ r.spells.size;
      zero = head 4 (omega arith) (omega arith) ∙ r.spells.zero;
      eight = head 6 (omega arith) (omega arith) ∙ r.spells.eight;
      offsets = (λ e j h. let low : j < less = omega (arith, h, left, less_is, count_is) in here j low ∙ (elim (cases_lt j i) [
        | inl l ↦ (let x = o.before j l in let y = r.spells.offsets none j (omega arith) in
            let z = left-before a i j none fits (omega arith) in omega (arith, x, y, z))
        | inr g ↦ (let x = o.behind j g (omega (arith, low, less_is)) in let y = r.spells.offsets none (j + 1)
            (omega (arith, low, less_is, count_is)) in let z = left-behind a i j none fits g in
            let next : element_at a (j + 1) ≡ element_at a (suc j) = ap (element_at a) (let q : j + 1 ≡ suc j = omega arith in q) in
            omega (arith, x, y, z, next, n_is))
      ]));
      fits = omega (arith, first_b, left, less_is, count_is, long, head_fits, cut_in);
      rest = ap (λ q. drop q bytes) (first_b ∙ (let q : 8 + 2 * length b.elements ≡ t = omega (arith, left, less_is, count_is) in q))
          ∙ ap (drop t) made
          ∙ drop-front counted (drop (cut + (n + 2)) counted) t cut head_fits (omega arith)
          ∙ ap (λ xs. xs ++ drop (cut + (n + 2)) counted) (kept ∙ ap (part before (first_at a)) width ∙ front-elements before a i r)
          ∙ ap (λ xs. join (take i a.elements) ++ xs) (back ∙ drop-elements before a (suc i) r) ∙ sym (join-remove a.elements i);
    })

-- an element taken out of an array of one size
pub removed-fixed : (before counted bytes : List ℕ) (a : Array) (i less : ℕ) → Reads before a → a.element_size ≢ 0 → i < length a.elements
    → counted ≡ with_word before 0 less → less + 1 ≡ length a.elements → less < 65536
    → ((k : ℕ) → get_or bytes k 0 < 256) → bytes ≡ without_part counted (element_at a (i + 1) - a.element_size) a.element_size
    → bytes ≡ spelled (without_element a i)
removed-fixed before counted bytes a i less r some fits counts less_is few small made =
    let at = element_at a i in
    let b = without_element a i in
    let k = a.element_size in
    let cut = element_at a (i + 1) - k in
    let e1 = r.equal some i (omega arith) in
    let e2 = r.equal some (i + 1) (omega arith) in
    let q : (i + 1) * k ≡ i * k + k = omega arith in
    let end : element_at a (i + 1) ≡ at + k = omega (arith, e1, e2, q) in
    let cut_is : cut ≡ at = omega (arith, end) in
    let bounds = element-bounds before a (i + 1) r in
    let first = first-fixed a some in
    let least = (element-bounds before a i r).0 in
    let left = length-remove a.elements i fits in
    let first_b = first-fixed b some in
    let long_counted : length counted ≡ length before = ap length counts ∙ length-with_word before 0 less in
    let cut_in : cut + k ≤ length counted = omega (arith, end, cut_is, bounds.1, long_counted) in
    let long : length bytes ≡ length counted - k = ap length made ∙ length-without counted cut k cut_in in
    let front : (p : ℕ) → p + 2 ≤ 8 → word bytes p ≡ word counted p =
    (λ p h. ap (λ x. word x p) made ∙ front-word counted (drop (cut + k) counted) cut p (omega (arith, cut_is, least)) (omega arith)) in
    let head : (p : ℕ) → 2 ≤ p → p + 2 ≤ 8 → word bytes p ≡ word before p =
    (λ p l h. front p h ∙ ap (λ x. word x p) counts ∙ word-other before 0 less p (inr (omega arith))) in
    spells bytes b (record {
      small = small;
      count = front 0 (omega arith) ∙ ap (λ x. word x 0) counts ∙ word-same before 0 less few (omega (arith, bounds.1, bounds.0))
          ∙ omega (arith, left, less_is);
      size = head 2 (omega arith) (omega arith) ∙ r.spells.size;
      zero = head 4 (omega arith) (omega arith) ∙ r.spells.zero;
      eight = head 6 (omega arith) (omega arith) ∙ r.spells.eight;
      offsets = (λ e j h. absurd (some e));
      fits = omega (arith, first_b, long, cut_is, least, cut_in);
      rest = ap (λ x. drop x bytes) first_b ∙ ap (drop 8) made ∙ drop-front counted (drop (cut + k) counted) 8 cut
          (omega (arith, cut_is, least)) (omega arith)
          ∙ ap (λ xs. take (cut - 8) xs ++ drop (cut + k) counted) (ap (drop 8) counts ∙ drop-word before less 8 (omega arith))
          ∙ ap (λ x. part before 8 (x - 8) ++ drop (cut + k) counted) cut_is
          ∙ ap (λ xs. xs ++ drop (cut + k) counted) (ap (λ x. part before x (at - x)) (sym first) ∙ front-elements before a i r)
          ∙ ap (λ xs. join (take i a.elements) ++ xs) (ap (drop (cut + k)) counts ∙ drop-word before less (cut + k) (omega (arith, cut_is, least))
          ∙ ap (λ x. drop x before) (let p : cut + k ≡ element_at a (i + 1) = omega (arith, end, cut_is) in p)
          ∙ ap (λ x. drop (element_at a x) before) (let p : i + 1 ≡ suc i = omega arith in p) ∙ drop-elements before a (suc i) r)
          ∙ sym (join-remove a.elements i);
    })
