-- Tables of offsets that are shifted and opened.
use Rattle.std.proofs.Common.{◌≡◌, ℕ, ◌+◌, ◌-◌, ◌*◌, ◌<◌, ◌≤◌, ◌⊎◌, List, length, drop, get_or, refl, ap, sym, ◌∙◌, inl, inr, arith, length-take, length-drop}
use Rattle.std.proofs.lemmas.Bool.{cases_eq}
use Rattle.lmem_raw.specs.Bytes.{part, with_part}
use Rattle.lmem_raw.proofs.Parts.{length-with_part}
use Rattle.geos_terms.specs.Bytes.{with_word, IsShifted}
use Rattle.geos_terms.proofs.Words.{word-same, word-other, word-bytes, word-shifted, word-part_other, byte-other, length-with_word, part-moved, get_or-with_part_before, get_or-with_part_behind}
use Rattle.chunk_array.specs.Tables.{offset, ShiftsOffsets, OpensTable, ClosesTable}

-- nothing is shifted yet
pub shifts-none : (b : List ℕ) (from less more : ℕ) → ShiftsOffsets b b from from less more
shifts-none b from less more = record { long = refl; moved = λ j l h. absurd (omega arith); rest = λ k h. refl }

-- an offset that is not reached yet is as it was
pub shifts-ahead : (b d : List ℕ) (from to less more j : ℕ) → ShiftsOffsets b d from to less more → to ≤ j → offset d j ≡ offset b j
shifts-ahead b d from to less more j s h = word-bytes b d (8 + 2 * j) (8 + 2 * j) (s.rest (8 + 2 * j) (inr (omega arith)))
    (s.rest (8 + 2 * j + 1) (inr (omega arith)))

-- and one before them
pub shifts-before : (b d : List ℕ) (from to less more j : ℕ) → ShiftsOffsets b d from to less more → j < from → offset d j ≡ offset b j
shifts-before b d from to less more j s h = word-bytes b d (8 + 2 * j) (8 + 2 * j) (s.rest (8 + 2 * j) (inl (omega arith)))
    (s.rest (8 + 2 * j + 1) (inl (omega arith)))

-- one offset more
pub shifts-more : (b d e : List ℕ) (from j less more w : ℕ) → ShiftsOffsets b d from j less more → from ≤ j
    → 8 + 2 * (j + 1) ≤ length b → e ≡ with_word d (8 + 2 * j) w → w < 65536 → w + less ≡ offset b j + more → ShiftsOffsets b e from (j + 1) less more
shifts-more b d e from j less more w s order fits made small is =
    record {
      long = ap length made ∙ length-with_word d (8 + 2 * j) w ∙ s.long;
      moved = (λ k l h. elim (cases_eq k j) [
        | inl same ↦ (let now : offset e j ≡ w = ap (λ x. offset x j) made ∙ word-same d (8 + 2 * j) w small (omega arith) in
            ap (λ q. offset e q + less) same ∙ ap (λ x. x + less) now ∙ is ∙ ap (λ q. offset b q + more) (sym same))
        | inr ne ↦ (let now : offset e k ≡ offset d k = ap (λ x. offset x k) made ∙ word-other d (8 + 2 * j) w (8 + 2 * k) (inl (omega arith)) in
            ap (λ x. x + less) now ∙ s.moved k l (omega arith))
      ]);
      rest = (λ k h. ap (λ x. get_or x k 0) made ∙ (elim h [
        | inl l ↦ byte-other d (8 + 2 * j) w k (inl (omega arith)) ∙ s.rest k (inl l)
        | inr l ↦ byte-other d (8 + 2 * j) w k (inr (omega arith)) ∙ s.rest k (inr (omega arith))
      ]));
    }

-- if the bytes from an index on move up by 2, the offsets before the index stay, and those after it move along
pub low-stays : (b b1 : List ℕ) (i m j : ℕ) → b1 ≡ with_part b (8 + 2 * i + 2) (part b (8 + 2 * i) m) → j < i → offset b1 j ≡ offset b j
low-stays b b1 i m j made h = ap (λ x. offset x j) made ∙ word-part_other b (8 + 2 * i + 2) (part b (8 + 2 * i) m) (8 + 2 * j) (inl (omega arith))

up : (b b1 : List ℕ) (i at : ℕ) → 8 + 2 * i ≤ at → at + 2 ≤ length b → b1 ≡ with_part b (8 + 2 * i + 2) (part b (8 + 2 * i) (at - (8 + 2 * i)))
    → IsShifted b b1 0 2 (8 + 2 * i) at
up b b1 i at order room made j k e g r = part-moved b b1 (8 + 2 * i) (8 + 2 * i + 2) (at - (8 + 2 * i)) (omega arith)
    (omega arith) made j k (omega arith) g (omega arith)

pub high-moves : (b b1 b2 b3 : List ℕ) (i at w j : ℕ) → 8 + 2 * (j + 1) ≤ at → at + 2 ≤ length b
    → b1 ≡ with_part b (8 + 2 * i + 2) (part b (8 + 2 * i) (at - (8 + 2 * i)))
    → ShiftsOffsets b1 b2 0 i 0 2 → b3 ≡ with_word b2 (8 + 2 * i) w → i ≤ j → offset b3 (j + 1) ≡ offset b j
high-moves b b1 b2 b3 i at w j within room made1 s2 made3 h =
    let here = 8 + 2 * i in
    ap (λ x. offset x (j + 1)) made3 ∙ word-other b2 here w (8 + 2 * (j + 1)) (inr (omega arith))
    ∙ shifts-ahead b1 b2 0 i 0 2 (j + 1) s2 (omega arith)
    ∙ word-shifted b b1 0 2 here at (8 + 2 * (j + 1)) (8 + 2 * j) (up b b1 i at (omega arith) room made1) (omega arith) (omega arith) (omega arith)

-- the table is opened in four steps
pub opens : (b b1 b2 b3 b4 : List ℕ) (count i at n : ℕ) → i ≤ count → 8 + 2 * count ≤ at → at + (n + 2) ≤ length b → at + 2 < 65536 →
    b1 ≡ with_part b (8 + 2 * i + 2) (part b (8 + 2 * i) (at - (8 + 2 * i))) → ShiftsOffsets b1 b2 0 i 0 2
    → b3 ≡ with_word b2 (8 + 2 * i) (at + 2) → ShiftsOffsets b3 b4 (i + 1) (count + 1) 0 (n + 2) → OpensTable b b4 count i at n
opens b b1 b2 b3 b4 count i at n order table room small made1 s2 made3 s4 =
    let here = 8 + 2 * i in
    let m = at - here in
    let ws = part b here m in
    let lw : length ws ≡ m = omega (arith, length-take m (drop here b), length-drop here b) in
    let l1 : length b1 ≡ length b = ap length made1 ∙ length-with_part b (here + 2) ws in
    let l3 : length b3 ≡ length b2 = ap length made3 ∙ length-with_word b2 here (at + 2) in
    let low1 : (k : ℕ) → k < here + 2 → get_or b1 k 0 ≡ get_or b k 0 = (λ k h. ap (λ x. get_or x k 0) made1
    ∙ get_or-with_part_before b (here + 2) ws k h) in
    let high1 : (k : ℕ) → at + 2 ≤ k → get_or b1 k 0 ≡ get_or b k 0 = (λ k h. ap (λ x. get_or x k 0) made1
    ∙ get_or-with_part_behind b (here + 2) ws k (omega arith)) in
    let other3 : (k : ℕ) → (k < here) ⊎ (here + 2 ≤ k) → get_or b3 k 0 ≡ get_or b2 k 0 =
    (λ k h. ap (λ x. get_or x k 0) made3 ∙ byte-other b2 here (at + 2) k h) in
    let behind : (k : ℕ) → 8 + 2 * (count + 1) ≤ k → get_or b4 k 0 ≡ get_or b1 k 0 =
    (λ k h. s4.rest k (inr h) ∙ other3 k (inr (omega arith)) ∙ s2.rest k (inr (omega arith))) in
    record {
      long = s4.long ∙ l3 ∙ s2.long ∙ l1;
      head = (λ k h. s4.rest k (inl (omega arith)) ∙ other3 k (inl (omega arith)) ∙ s2.rest k (inl (omega arith)) ∙ low1 k (omega arith));
      before = (λ j h.
          let e4 = shifts-before b3 b4 (i + 1) (count + 1) 0 (n + 2) j s4 (omega arith) in
          let e3 : offset b3 j ≡ offset b2 j = ap (λ x. offset x j) made3 ∙ word-other b2 here (at + 2) (8 + 2 * j) (inl (omega arith)) in
          let e2 = s2.moved j (omega arith) h in
          omega (arith, e4, e3, e2, low-stays b b1 i m j made1 h));
      here = shifts-before b3 b4 (i + 1) (count + 1) 0 (n + 2) i s4 (omega arith) ∙ ap (λ x. offset x i) made3
          ∙ word-same b2 here (at + 2) small (omega arith);
      behind = (λ j l h.
          let e4 = s4.moved (j + 1) (omega arith) (omega arith) in
          let e1 = high-moves b b1 b2 b3 i at (at + 2) j (omega arith) (omega arith) made1 s2 made3 l in
          omega (arith, e4, e1));
      middle = (λ j k e g r. behind j (omega arith) ∙ up b b1 i at (omega arith) (omega arith) made1 j k e (omega arith) r);
      rest = (λ j k e g r. let same : j ≡ k = omega arith in behind j (omega arith) ∙ high1 j (omega arith) ∙ ap (λ q. get_or b q 0) same);
    }

-- if the bytes after an index move down by 2, the offsets before the index stay, and those after it move along
pub low-kept : (b b1 : List ℕ) (i m j : ℕ) → b1 ≡ with_part b (8 + 2 * i) (part b (8 + 2 * i + 2) m) → j < i → offset b1 j ≡ offset b j
low-kept b b1 i m j made h = ap (λ x. offset x j) made ∙ word-part_other b (8 + 2 * i) (part b (8 + 2 * i + 2) m) (8 + 2 * j) (inl (omega arith))

down : (b b1 : List ℕ) (i at : ℕ) → 8 + 2 * i + 2 ≤ at → at ≤ length b → b1 ≡ with_part b (8 + 2 * i) (part b (8 + 2 * i + 2) (at - (8 + 2 * i + 2)))
    → IsShifted b b1 2 0 (8 + 2 * i + 2) at
down b b1 i at order room made j k e g r = part-moved b b1 (8 + 2 * i + 2) (8 + 2 * i) (at - (8 + 2 * i + 2))
    (omega arith) (omega arith) made j k (omega arith) g (omega arith)

pub high-lowers : (b b1 b2 : List ℕ) (i at j : ℕ) → 8 + 2 * (j + 2) ≤ at → at ≤ length b
    → b1 ≡ with_part b (8 + 2 * i) (part b (8 + 2 * i + 2) (at - (8 + 2 * i + 2)))
    → ShiftsOffsets b1 b2 0 i 2 0 → i ≤ j → offset b2 j ≡ offset b (j + 1)
high-lowers b b1 b2 i at j within room made1 s2 h =
    shifts-ahead b1 b2 0 i 2 0 j s2 (omega arith)
    ∙ word-shifted b b1 2 0 (8 + 2 * i + 2) at (8 + 2 * j) (8 + 2 * (j + 1)) (down b b1 i at (omega arith) room made1)
    (omega arith) (omega arith) (omega arith)

-- the table is closed in three steps
pub closes : (b b1 b2 b3 : List ℕ) (count i at n last : ℕ) → i < count → last ≡ count - 1 → 8 + 2 * count ≤ at → at ≤ length b →
    b1 ≡ with_part b (8 + 2 * i) (part b (8 + 2 * i + 2) (at - (8 + 2 * i + 2))) → ShiftsOffsets b1 b2 0 i 2 0
    → ShiftsOffsets b2 b3 i last (n + 2) 0 → ClosesTable b b3 count i at n
closes b b1 b2 b3 count i at n last order last_is table room made1 s2 s3 =
    let here = 8 + 2 * i in
    let m = at - (here + 2) in
    let ws = part b (here + 2) m in
    let lw : length ws ≡ m = omega (arith, length-take m (drop (here + 2) b), length-drop (here + 2) b) in
    let l1 : length b1 ≡ length b = ap length made1 ∙ length-with_part b here ws in
    let low1 : (k : ℕ) → k < here → get_or b1 k 0 ≡ get_or b k 0 = (λ k h. ap (λ x. get_or x k 0) made1 ∙ get_or-with_part_before b here ws k h) in
    let high1 : (k : ℕ) → at - 2 ≤ k → get_or b1 k 0 ≡ get_or b k 0 = (λ k h. ap (λ x. get_or x k 0) made1
    ∙ get_or-with_part_behind b here ws k (omega arith)) in
    let behind : (k : ℕ) → 8 + 2 * last ≤ k → get_or b3 k 0 ≡ get_or b1 k 0 = (λ k h. s3.rest k (inr h) ∙ s2.rest k (inr (omega arith))) in
    record {
      long = s3.long ∙ s2.long ∙ l1;
      head = (λ k h. s3.rest k (inl (omega arith)) ∙ s2.rest k (inl (omega arith)) ∙ low1 k (omega arith));
      before = (λ j h.
          let e3 = shifts-before b2 b3 i last (n + 2) 0 j s3 h in
          let e2 = s2.moved j (omega arith) h in
          omega (arith, e3, e2, low-kept b b1 i m j made1 h));
      behind = (λ j l h.
          let e3 = s3.moved j l (omega arith) in
          let e1 = high-lowers b b1 b2 i at j (omega arith) room made1 s2 l in
          omega (arith, e3, e1));
      middle = (λ j k e g r. behind j (omega arith) ∙ down b b1 i at (omega arith) room made1 j k e (omega arith) r);
      rest = (λ j k e g r. let same : j ≡ k = omega arith in behind j (omega arith) ∙ high1 j (omega arith) ∙ ap (λ q. get_or b q 0) same);
    }
