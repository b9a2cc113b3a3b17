-- Entries of the table that move, one after the other; and the bytes of their chunks.
use Rattle.std.proofs.Common.{◌≡◌, ◌≢◌, ℕ, ◌+◌, ◌-◌, ◌*◌, ◌<◌, ◌≤◌, List, length, get_or, drop, refl, ap, sym, ◌∙◌, inl, inr, arith, length-take, length-drop}
use Rattle.std.proofs.lemmas.Bool.{cases_eq, cases_lt}
use Rattle.std.proofs.lemmas.Bool.Decides.{nat_tests}
use Rattle.lmem_raw.specs.Bytes.{part, with_part}
use Rattle.lmem_raw.proofs.Parts.{length-with_part}
use Rattle.geos_terms.specs.Bytes.{word, with_word}
use Rattle.geos_terms.specs.Block.{entry, entries, table_end}
use Rattle.geos_terms.proofs.Words.{word-same, word-other, length-with_word, byte-other, word-bytes, part-moved, get_or-with_part_before, get_or-with_part_behind}
use Rattle.lmem_heap.specs.Moves.{entry_moved, MapsEntries, MovesRun}

pub moved-in : (from end to e : ℕ) → from < e → e < end → entry_moved from end to e ≡ e - from + to
moved-in from end to e h l = grind (arith, nat_tests)

pub moved-low : (from end to e : ℕ) → e ≤ from → entry_moved from end to e ≡ e
moved-low from end to e h = grind (arith, nat_tests)

pub moved-high : (from end to e : ℕ) → end ≤ e → entry_moved from end to e ≡ e
moved-high from end to e h = grind (arith, nat_tests)

-- entries of which the function changes none
pub entries-kept : (old : List ℕ) (f : ℕ → ℕ) (from end : ℕ) → ((j : ℕ) → from ≤ j → j < end → f (entry old j) ≡ entry old j)
    → MapsEntries old old f from end
entries-kept old f from end same = record {
  mapped = (λ j g h. sym (same j g h));
  rest = (λ j h l. refl);
  head =
      (λ k h. refl);
  behind = (λ k h. refl);
  long = refl;
}

pub entries-more : (old b : List ℕ) (f : ℕ → ℕ) (from i w : ℕ) → MapsEntries old b f from i → from ≤ i → i < entries old
    → table_end old ≤ length old →
    w ≡ f (word b (16 + 2 * i)) → w < 65536 → MapsEntries old (with_word b (16 + 2 * i) w) f from (i + 1)
entries-more old b f from i w l up h fits is small =
    let here : entry (with_word b (16 + 2 * i) w) i ≡ f (entry old i) = word-same b (16 + 2 * i) w small (omega (arith, l.long))
    ∙ is ∙ ap f (l.rest i (inr (omega arith)) h) in
    let other : (j : ℕ) → j ≢ i → entry (with_word b (16 + 2 * i) w) j ≡ entry b j = (λ j ne. elim (cases_lt j i) [
      | inl a ↦ word-other b (16 + 2 * i) w (16 + 2 * j) (inl (omega arith))
      | inr a ↦ word-other b (16 + 2 * i) w (16 + 2 * j) (inr (omega arith))
    ]) in
    record {
      mapped = (λ j a g. elim (cases_eq j i) [
        | inl e ↦ ap (λ x. entry (with_word b (16 + 2 * i) w) x) e ∙ here ∙ ap (λ x. f (entry old x)) (sym e)
        | inr ne ↦ other j ne ∙ l.mapped j a (omega arith)
      ]);
      rest = (λ j out r. elim out [
        | inl a ↦ other j (λ e. absurd (omega arith)) ∙ l.rest j (inl a) r
        | inr a ↦ other j (λ e. absurd (omega arith)) ∙ l.rest j (inr (omega arith)) r
      ]);
      head = (λ k g. byte-other b (16 + 2 * i) w k (inl (omega arith)) ∙ l.head k g);
      behind = (λ k g. byte-other b (16 + 2 * i) w k (inr (omega arith)) ∙ l.behind k g);
      long = length-with_word b (16 + 2 * i) w ∙ l.long;
    }

-- the table stays as long
pub entries-count : (a b : List ℕ) (f : ℕ → ℕ) (from end : ℕ) → MapsEntries a b f from end → entries b ≡ entries a
entries-count a b f from end x = word-bytes a b 10 10 (x.head 10 (omega arith)) (x.head 11 (omega arith))

-- entries one run after the other
pub entries-join : (a b c : List ℕ) (f : ℕ → ℕ) (from mid end : ℕ) → from ≤ mid → mid ≤ end → end ≤ entries a
    → MapsEntries a b f from mid → MapsEntries b c f mid end → MapsEntries a c f from end
entries-join a b c f from mid end up up' fits x y =
    let count = entries-count a b f from mid x in
    record {
      mapped = (λ j g h. elim (cases_lt j mid) [
        | inl l ↦ y.rest j (inl l) (omega (arith, count)) ∙ x.mapped j g l
        | inr l ↦ y.mapped j l h ∙ ap f (x.rest j (inr l) (omega arith))
      ]);
      rest = (λ j out r. elim out [
        | inl l ↦ y.rest j (inl (omega arith)) (omega (arith, count)) ∙ x.rest j (inl l) r
        | inr l ↦ y.rest j (inr l) (omega (arith, count)) ∙ x.rest j (inr (omega arith)) r
      ]);
      head = (λ k h. y.head k h ∙ x.head k h);
      behind = (λ k h. y.behind k (omega (arith, count)) ∙ x.behind k h);
      long = y.long ∙ x.long;
    }

-- the bytes first, and then the entries
pub run-moved : (b c d : List ℕ) (from end to : ℕ) → table_end b ≤ from → table_end b ≤ to → from ≤ end → end ≤ length b
    → to + (end - from) ≤ length b →
    c ≡ with_part b to (part b from (end - from)) → MapsEntries c d (entry_moved from end to) 0 (entries c) → MovesRun b d from end to
run-moved b c d from end to low low' ordered fits fits' is m =
    let ws = part b from (end - from) in
    let n : length ws ≡ end - from = omega (arith, length-take (end - from) (drop from b), length-drop from b) in
    let byte : (k : ℕ) → get_or c k 0 ≡ get_or (with_part b to ws) k 0 = (λ k. ap (λ x. get_or x k 0) is) in
    let low_byte : (k : ℕ) → k < to → get_or c k 0 ≡ get_or b k 0 = (λ k h. byte k ∙ get_or-with_part_before b to ws k h) in
    let count : entries c ≡ entries b = word-bytes b c 10 10 (low_byte 10 (omega arith)) (low_byte 11 (omega arith)) in
    record {
      long = m.long ∙ ap length is ∙ length-with_part b to ws;
      head = (λ k h. m.head k h ∙ low_byte k (omega arith));
      entries = (λ i h. m.mapped i (omega arith) (omega (arith, count))
          ∙ ap (entry_moved from end to) (word-bytes b c (16 + 2 * i) (16 + 2 * i) (low_byte (16 + 2 * i) (omega arith))
          (low_byte (16 + 2 * i + 1) (omega arith))));
      moved = (λ j k e g r. m.behind j (omega (arith, count)) ∙ part-moved b c from to (end - from) (omega arith) fits' is j k e g (omega arith));
      before = (λ k g l r. m.behind k (omega (arith, count)) ∙ low_byte k r);
      behind = (λ k g l. m.behind k (omega (arith, count)) ∙ byte k ∙ get_or-with_part_behind b to ws k (omega (arith, n)));
    }

-- the table stays in the block if bytes after it moved
pub run-table : (b c : List ℕ) (from end to : ℕ) → table_end b ≤ from → table_end b ≤ to → from ≤ end → end ≤ length b
    → c ≡ with_part b to (part b from (end - from)) → table_end c ≤ length c
run-table b c from end to low low' ordered fits is =
    let ws = part b from (end - from) in
    let low_byte : (k : ℕ) → k < to → get_or c k 0 ≡ get_or b k 0 = (λ k h. ap (λ x. get_or x k 0) is ∙ get_or-with_part_before b to ws k h) in
    let count : entries c ≡ entries b = word-bytes b c 10 10 (low_byte 10 (omega arith)) (low_byte 11 (omega arith)) in
    let long : length c ≡ length b = ap length is ∙ length-with_part b to ws in omega (arith, count, long)

-- a run that stays where it is
pub run-still : (b : List ℕ) (from end to : ℕ) → from ≡ to → MovesRun b b from end to
run-still b from end to is = record {
  long = refl;
  head = (λ k h. refl);
  entries = (λ i h. elim (cases_lt from (entry b i)) [
    | inr low ↦ sym (moved-low from end to (entry b i) low)
    | inl high ↦ elim (cases_lt (entry b i) end) [
      | inr past ↦ sym (moved-high from end to (entry b i) past)
      | inl within ↦ sym (moved-in from end to (entry b i) high within ∙ omega arith)
    ]
  ]);
  moved = (λ j k e g r. ap (λ x. get_or b x 0) (omega arith));
  before = (λ k g l r. refl);
  behind = (λ k g l. refl);
}
