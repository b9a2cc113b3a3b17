-- From the writes of the code to what they do to a hole.
use Rattle.std.proofs.Common.{◌≡◌, ◌≢◌, ℕ, ◌+◌, ◌-◌, ◌*◌, ◌%◌, ◌<◌, ◌≤◌, ◌⊎◌, List, length, get_or, replicate, drop, ap, sym, ◌∙◌, subst, inl, inr, arith}
use Rattle.std.proofs.lemmas.Bool.{cases_lt}
use Rattle.std.proofs.lemmas.List.{get_or-take, get_or-drop}
use Rattle.lmem_raw.specs.Bytes.{part, with_part}
use Rattle.geos_terms.specs.Bytes.{word, with_word}
use Rattle.geos_terms.specs.Chunks.{cost, resized}
use Rattle.geos_terms.specs.Block.{entry, entries, table_end, total_free}
use Rattle.geos_terms.specs.Heap.{free_bytes}
use Rattle.geos_terms.proofs.Words.{word-part_other}
use Rattle.geos_terms.proofs.Pieces.{tiles-le}
use Rattle.geos_terms.proofs.Costs.{cost-least}
use Rattle.geos_terms.proofs.Resizes.{length-part}
use Rattle.lmem_heap.specs.Holes.{IsOpen, IsBeside, Widens, GivesBack}
use Rattle.lmem_heap.proofs.Contents.{length-zeros, beside-zeros, within-zeros, kept-bytes}
use Rattle.lmem_heap.proofs.FreeLists.{OpenPlace, open-place}
use Rattle.lmem_heap.proofs.Relinking.{Apart, KeepsFront, KeepsBack, other, clear, put, long, free-behind}
use Rattle.lmem_heap.proofs.Giving.{took-whole, took-front, linked-in, merged-before}
use Rattle.lmem_heap.proofs.Filling.{Filled, filled}

-- where a link lies beside the header's total
link-apart : (b : List ℕ) (link at end : ℕ) → OpenPlace b link at end → (link + 2 ≤ 14) ⊎ (16 ≤ link)
link-apart b link at end p = elim p.link_out [ inl e ↦ inl (omega (arith, e)) | inr f ↦ inr (omega (arith, f, p.table)) ]

-- all of the free chunk after a hole
pub whole-taken : (b d c : List ℕ) (link at end size next total : ℕ) → IsBeside b link at end → word b link ≡ end
    → size ≡ word b end → next ≡ word b (end + 2) → next < 65536 → total + size ≡ total_free b → d ≡ with_word b link next
    → c ≡ with_word d 14 total →
    Widens b c link at end (end + size) × (word c link ≢ end + size)
whole-taken b d c link at end size next total s is size_is next_is small sum e1 e2 =
    let p = open-place b link at end s.is in
    let n1 = long b d link next e1 in
    let n2 = long d c 14 total e2 in
    let byte : (k : ℕ) → Apart k link → Apart k 14 → get_or c k 0 ≡ get_or b k 0 =
    (λ k u v. other d c 14 total k e2 v ∙ other b d link next k e1 u) in
    subst (λ (x : ℕ). Widens b c link at end (end + x) × (word c link ≢ end + x)) (sym size_is)
    (took-whole b c link at end s is (n2 ∙ n1) (λ k l u v. byte k u v) (λ k l. byte k (inr (omega arith)) (inr (omega arith)))
    (clear d c 14 total link e2 (link-apart b link at end p) ∙ put b d link next e1 small (omega arith) ∙ next_is)
    (let w = put d c 14 total e2 (omega (arith, sum, p.room)) (omega (arith, n1)) in omega (arith, w, sum, size_is)))

-- a free chunk that is written, with the link to it
record Written (b c : List ℕ) (link to left next total : ℕ) : Type 0 where
  pub same : length c ≡ length b
  pub front : KeepsFront b c link to
  pub back : KeepsBack b c (to + 4)
  pub says : word c link ≡ to
  pub size_is : word c to ≡ left
  pub next_is : word c (to + 2) ≡ next
  pub total_is : word c 14 ≡ total

written : (b d1 d2 d3 c : List ℕ) (link to left next total : ℕ) → (link + 2 ≤ 14) ⊎ (16 ≤ link) → 16 ≤ to → link + 2 ≤ to
    → to + 4 ≤ length b → to < 65536 → left < 65536 → next < 65536 → total < 65536 →
    d1 ≡ with_word b to left → d2 ≡ with_word d1 (to + 2) next → d3 ≡ with_word d2 link to → c ≡ with_word d3 14 total
    → Written b c link to left next total
written b d1 d2 d3 c link to left next total out low above fits s1 s2 s3 s4 e1 e2 e3 e4 =
    let n1 = long b d1 to left e1 in
    let n2 = long d1 d2 (to + 2) next e2 in
    let n3 = long d2 d3 link to e3 in
    let n4 = long d3 c 14 total e4 in
    record {
      same = n4 ∙ n3 ∙ n2 ∙ n1;
      front = (λ k l u v. other d3 c 14 total k e4 v ∙ other d2 d3 link to k e3 u ∙ other d1 d2 (to + 2) next k e2 (inl (omega arith))
          ∙ other b d1 to left k e1 (inl l));
      back = (λ k l. other d3 c 14 total k e4 (inr (omega arith)) ∙ other d2 d3 link to k e3 (inr (omega arith))
          ∙ other d1 d2 (to + 2) next k e2 (inr (omega arith)) ∙ other b d1 to left k e1 (inr (omega arith)));
      says = clear d3 c 14 total link e4 out ∙ put d2 d3 link to e3 s1 (omega (arith, n1, n2));
      size_is = clear d3 c 14 total to e4 (inr low) ∙ clear d2 d3 link to to e3 (inr above)
          ∙ clear d1 d2 (to + 2) next to e2 (inl (omega arith)) ∙ put b d1 to left e1 s2 (omega arith);
      next_is = clear d3 c 14 total (to + 2) e4 (inr (omega arith)) ∙ clear d2 d3 link to (to + 2) e3 (inr (omega arith))
          ∙ put d1 d2 (to + 2) next e2 s3 (omega (arith, n1));
      total_is = put d3 c 14 total e4 s4 (omega (arith, n1, n2, n3));
    }

-- the free chunk after a hole lies in the block
pub free-inside : (b : List ℕ) (link at end : ℕ) → IsBeside b link at end → word b link ≡ end → end + word b end ≤ length b
free-inside b link at end s is =
    let f = free-behind b link at end s is in
    omega (arith, tiles-le b (end + f.size) (word b (end + 2)) f.rest (length b) 0 f.here.5, f.here.3)

-- its bounds
pub record FreeFits (b : List ℕ) (end : ℕ) : Type 0 where
  pub four : 4 ≤ word b end
  pub fours : word b end % 4 ≡ 0
  pub inside : end + word b end ≤ length b
  pub sum : word b end ≤ total_free b

pub free-fits : (b : List ℕ) (link at end : ℕ) → IsBeside b link at end → word b link ≡ end → FreeFits b end
free-fits b link at end s is =
    let f = free-behind b link at end s is in
    let g = ap free_bytes f.is in
    record {
      four = omega (arith, f.here.0, f.here.1, f.here.3);
      fours = omega (arith, f.here.1, f.here.3);
      inside =
          free-inside b link at end s is;
      sum = omega (arith, g, s.is.total, f.here.3);
    }

-- the front of the free chunk after a hole
pub front-taken : (b d1 d2 d3 c : List ℕ) (link at end size left next total : ℕ) → IsBeside b link at end
    → word b link ≡ end → 0 < size → size % 4 ≡ 0 → size < word b end → left + size ≡ word b end → next ≡ word b (end + 2)
    → next < 65536 → total + size ≡ total_free b →
    d1 ≡ with_word b (end + size) left → d2 ≡ with_word d1 (end + size + 2) next → d3 ≡ with_word d2 link (end + size)
    → c ≡ with_word d3 14 total → Widens b c link at end (end + size)
front-taken b d1 d2 d3 c link at end size left next total s is pos fours less left_is next_is small sum e1 e2 e3 e4 =
    let p = open-place b link at end s.is in
    let f = free-behind b link at end s is in
    let inside : end + word b end ≤ length b = free-inside b link at end s is in
    let four : word b end % 4 ≡ 0 = omega (arith, f.here.1, f.here.3) in
    let w = written b d1 d2 d3 c link (end + size) left next total (link-apart b link at end p) (omega arith)
    (omega arith) (omega (arith, inside, less, four, fours)) (omega arith) (omega (arith, left_is, inside)) small
    (omega (arith, sum, p.room)) e1 e2 e3 e4 in
    took-front b c link at end size s is pos fours less w.same (λ k l u v. w.front k (omega arith) u v) w.back w.says
    (omega (arith, w.size_is, left_is)) (w.next_is ∙ next_is) (omega (arith, w.total_is, sum))

-- the hole as a free chunk of its own
pub hole-linked : (b d1 d2 d3 c : List ℕ) (link at end left next total : ℕ) → IsBeside b link at end → at < end
    → end % 4 ≡ 0 → word b link ≢ end → (table_end b + 2 ≤ link → link - 2 + word b (link - 2) ≢ at) → left ≡ end - at
    → next ≡ word b link → next < 65536 → total ≡ total_free b + (end - at) →
    d1 ≡ with_word b at left → d2 ≡ with_word d1 (at + 2) next → d3 ≡ with_word d2 link at → c ≡ with_word d3 14 total → GivesBack b c
hole-linked b d1 d2 d3 c link at end left next total s less fours apart alone left_is next_is small sum e1 e2 e3 e4 =
    let p = open-place b link at end s.is in
    let w = written b d1 d2 d3 c link at left next total (link-apart b link at end p) (omega arith) p.link_high
    (omega (arith, fours, s.is.fours)) (omega arith) (omega (arith, left_is)) small (omega (arith, sum, p.room)) e1 e2 e3 e4 in
    linked-in b c link at end s less fours apart alone w.same w.front (λ k l. w.back k (omega (arith, fours, s.is.fours)))
    w.says (w.size_is ∙ left_is) (w.next_is ∙ next_is) (w.total_is ∙ sum)

-- the hole as part of the free chunk before it
pub hole-merged : (b d c : List ℕ) (link at end left total : ℕ) → IsBeside b link at end → at < end → end % 4 ≡ 0
    → word b link ≢ end → link ≢ 12 → link - 2 + word b (link - 2) ≡ at → left ≡ end - (link - 2) → total ≡ total_free b + (end - at) →
    d ≡ with_word b (link - 2) left → c ≡ with_word d 14 total → GivesBack b c
hole-merged b d c link at end left total s less fours apart ne touch left_is sum e1 e2 =
    let p = open-place b link at end s.is in
    let far : table_end b + 2 ≤ link = elim p.link_out [ inl e ↦ absurd (ne e) | inr f ↦ f ] in
    let n1 = long b d (link - 2) left e1 in
    let n2 = long d c 14 total e2 in
    merged-before b c link at end s less fours apart far touch (n2 ∙ n1) (λ k l u v. other d c 14 total k e2 v ∙ other b d (link - 2) left k e1 u)
    (λ k l. other d c 14 total k e2 (inr (omega arith)) ∙ other b d (link - 2) left k e1 (inr (omega arith)))
    (clear d c 14 total (link - 2) e2 (inr (omega arith)) ∙ put b d (link - 2) left e1 (omega (arith, left_is)) (omega arith) ∙ left_is)
    (put d c 14 total e2 (omega (arith, sum, p.room)) (omega (arith, n1)) ∙ sum)

-- the chunk of an entry in a hole, once its entry says where it is: its first bytes are those
-- that stood there
pub hole-refilled : (b d1 d2 c : List ℕ) (link at end i keep n : ℕ) → (o : IsOpen b link at end) → 0 < n → at + cost n ≤ end
    → at + 2 + keep ≤ length b → i < entries b → entry b i ≡ 0 →
    length d1 ≡ length b → ((k : ℕ) → Apart k (16 + 2 * i) → get_or d1 k 0 ≡ get_or b k 0) → entry d1 i ≡ at + 2
    → d2 ≡ with_word d1 at (n + 2) → c ≡ with_part d2 (at + 2 + keep) (replicate (n - keep) 0)
    → Filled b c link at end i n (resized (part b (at + 2) keep) n) o
hole-refilled b d1 d2 c link at end i keep n o some fits kept h none n1 same1 here1 e2 e3 =
    let p = open-place b link at end o in
    let wide = cost-least n some in
    let n2 = long d1 d2 at (n + 2) e2 in
    let n3 = length-zeros d2 c (at + 2 + keep) (n - keep) e3 in
    let byte3 : (k : ℕ) → (k < at + 2 + keep) ⊎ (at + 2 + keep + (n - keep) ≤ k) → get_or c k 0 ≡ get_or d2 k 0 =
    (λ k out. beside-zeros d2 c (at + 2 + keep) (n - keep) k e3 out) in
    let past : (k : ℕ) → at + 2 + n ≤ k → (k < at + 2 + keep) ⊎ (at + 2 + keep + (n - keep) ≤ k) =
    (λ k g. elim (cases_lt k (at + 2 + keep)) [ inl l ↦ inl l | inr r ↦ inr (omega arith) ]) in
    let back : KeepsBack b c (at + cost n) = (λ k l. byte3 k (past k (omega arith)) ∙ other d1 d2 at (n + 2) k e2 (inr (omega arith))
    ∙ same1 k (inr (omega arith))) in
    let front : (k : ℕ) → k < at → Apart k (16 + 2 * i) → get_or c k 0 ≡ get_or b k 0 =
    (λ k l u. byte3 k (inl (omega arith)) ∙ other d1 d2 at (n + 2) k e2 (inl l) ∙ same1 k u) in
    let word3 : (j : ℕ) → j + 2 ≤ at + 2 → word c j ≡ word d2 j =
    (λ j l. ap (λ x. word x j) e3 ∙ word-part_other d2 (at + 2 + keep) _ j (inl (omega arith))) in
    let here : entry c i ≡ at + 2 = word3 (16 + 2 * i) (omega arith) ∙ clear d1 d2 at (n + 2) (16 + 2 * i) e2 (inl (omega arith)) ∙ here1 in
    let says : word c at ≡ n + 2 = word3 at (omega arith) ∙ put d1 d2 at (n + 2) e2 (omega arith) (omega (arith, n1)) in
    let old = part b (at + 2) keep in
    let no = length-part b (at + 2) keep kept in
    let content : part c (at + 2) n ≡ resized old n = kept-bytes old c (at + 2) keep n (omega (arith, n1, n2, n3)) (inr (omega (arith, no)))
    (λ q stays small. byte3 (at + 2 + q) (inl (omega arith)) ∙ other d1 d2 at (n + 2) (at + 2 + q) e2 (inr (omega arith))
    ∙ same1 (at + 2 + q) (inr (omega arith))
    ∙ sym (get_or-take keep (drop (at + 2) b) q 0 stays ∙ get_or-drop (at + 2) b q 0))
    (λ q new small. within-zeros d2 c (at + 2 + keep) (n - keep) (at + 2 + q) e3 (omega (arith, n1, n2)) (omega arith) (omega arith)) in
    filled b c link at end i n (resized old n) o some fits h none (n3 ∙ n2 ∙ n1) front back here says content

-- the same, with the entry written
pub hole-filled : (b d1 d2 c : List ℕ) (link at end i keep n : ℕ) → (o : IsOpen b link at end) → 0 < n → at + cost n ≤ end
    → at + 2 + keep ≤ length b → i < entries b → entry b i ≡ 0 →
    d1 ≡ with_word b (16 + 2 * i) (at + 2) → d2 ≡ with_word d1 at (n + 2) → c ≡ with_part d2 (at + 2 + keep) (replicate (n - keep) 0)
    → Filled b c link at end i n (resized (part b (at + 2) keep) n) o
hole-filled b d1 d2 c link at end i keep n o some fits kept h none e1 e2 e3 =
    let p = open-place b link at end o in
    let wide = cost-least n some in
    hole-refilled b d1 d2 c link at end i keep n o some fits kept h none (long b d1 (16 + 2 * i) (at + 2) e1)
    (λ k u. other b d1 (16 + 2 * i) (at + 2) k e1 u) (put b d1 (16 + 2 * i) (at + 2) e1 (omega arith) (omega arith)) e2 e3
