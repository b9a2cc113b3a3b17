-- A walk over the pieces of a block, one at a time.
use Rattle.std.proofs.Common.{◌≡◌, ◌≢◌, ℕ, ◌+◌, ◌-◌, ◌*◌, ◌/◌, ◌%◌, ◌<◌, ◌≤◌, ◌⊎◌, ◌↔◌, Bool, true, false, List, [], ◌∷◌, length, get_or, ap, sym, ◌∙◌, subst, inl, inr, arith}
use Rattle.std.proofs.lemmas.Bool.{cases_eq, cases_lt, false≢true}
use Rattle.geos_terms.proofs.Costs.{cost_is, cost-four}
use Rattle.geos_terms.proofs.Pieces.{lies, tiles-le}
use Rattle.geos_terms.specs.Block.{entry, entries, table_end}
use Rattle.geos_terms.specs.Bytes.{word}
use Rattle.geos_terms.specs.Chunks.{cost}
use Rattle.geos_terms.specs.Heap.{Piece, Used, Free, Tiles, HasChunk, free_bytes, IsOffset}
use Rattle.lmem_block.proofs.Counting.{marks-yes, marks-no, marks-le, marks-same, marks-clear, marks-none_from}
use Rattle.lmem_block.specs.Check.{CanTile, Goes, IsTiled, Marks, marks_from}

-- an entry that tells of a chunk at a marked place
pub marked-start : (b : List ℕ) (at n : ℕ) (starts : List Bool) → Marks b n starts → at % 4 ≡ 0 → get_or starts (at / 4) false ≡ true
    → (i : ℕ) × (i < n) × IsOffset (entry b i) × (entry b i ≡ at + 2)
marked-start b at n starts m fours h = let s = m.sound (at / 4) h in (s.0, s.1, s.2, s.3 ∙ omega arith)

pub unmarked-start : (b : List ℕ) (at n : ℕ) (starts : List Bool) → Marks b n starts → at % 4 ≡ 0
    → get_or starts (at / 4) false ≡ false → (i : ℕ) → i < n → IsOffset (entry b i) → entry b i ≡ at + 2 → ⊥
unmarked-start b at n starts m fours h i l t e =
    let q : entry b i / 4 ≡ at / 4 = ap (λ x. x / 4) e ∙ omega arith in
    false≢true (sym h ∙ ap (λ x. get_or starts x false) (sym q) ∙ m.marked i l t)

-- no mark between the start of a piece and its end
abbrev pub Clear : List Bool → ℕ → ℕ → Type 0
Clear starts at size = (k : ℕ) → at / 4 + 1 ≤ k → k < (at + size) / 4 → get_or starts k false ≡ true → ⊥

-- where the pieces from `at` on begin with one of this size, no entry tells of a place within
-- it
clear : (b : List ℕ) (at f size : ℕ) (ps : List Piece) (starts : List Bool) → Marks b (entries b) starts → at % 4 ≡ 0 → size % 4 ≡ 0 →
    ((i : ℕ) → i < entries b → IsOffset (entry b i) → at + 2 < entry b i → HasChunk i ps) → Tiles b (at + size) f ps (length b) 0
    → Clear starts at size
clear b at f size ps starts m fours four all s k low high h =
    let e = m.sound k h in
    let l = lies b (at + size) f ps (length b) 0 e.0 s (all e.0 e.1 e.2 (omega (arith, e.3))) in
    absurd (omega (arith, l.from, e.3))

-- if no other chunk starts within a piece, each entry from the piece on has this piece or a chunk after it
covered : (b : List ℕ) (at size : ℕ) (ps : List Piece) (starts : List Bool) → Marks b (entries b) starts → at % 4 ≡ 0
    → size % 4 ≡ 0 → Clear starts at size →
    ((i : ℕ) → i < entries b → IsOffset (entry b i) → at + size ≤ entry b i → HasChunk i ps) →
    (i : ℕ) → i < entries b → IsOffset (entry b i) → at ≤ entry b i → (entry b i ≡ at + 2) ⊎ HasChunk i ps
covered b at size ps starts m fours four free all i l t low =
    let p = m.place i l t in
    elim (cases_eq (entry b i) (at + 2)) [
      | inl e ↦ inl e
      | inr ne ↦ elim (cases_lt (entry b i) (at + size)) [
        | inl lt ↦ absurd (free (entry b i / 4) (omega (arith, p.1)) (omega (arith, p.1)) (m.marked i l t))
        | inr ge ↦ inr (all i l t ge)
      ]
    ]

-- at a marked offset begins the chunk of an entry
pub used-forward : (b : List ℕ) (at free sum w : ℕ) (starts : List Bool) → Marks b (entries b) starts → at % 4 ≡ 0 → at < length b → w ≡ word b at →
    get_or starts (at / 4) false ≡ true → CanTile b at free sum →
    (3 ≤ w) × (at + (w + 3) / 4 * 4 ≤ length b) × Clear starts at ((w + 3) / 4 * 4) × CanTile b (at + (w + 3) / 4 * 4) free sum
used-forward b at free sum w starts m fours inside is h (ps, left) = by ps left.tiles left.all left.total
  where
    by : (ps : List Piece) → Tiles b at free ps (length b) 0 → ((i : ℕ) → i < entries b → IsOffset (entry b i) → at ≤ entry b i → HasChunk i ps)
        → sum + free_bytes ps ≡ word b 14 →
        (3 ≤ w) × (at + (w + 3) / 4 * 4 ≤ length b) × Clear starts at ((w + 3) / 4 * 4) × CanTile b (at + (w + 3) / 4 * 4) free sum
    by [] s all total = absurd (omega arith)
    by (Free k ∷ ps) s all total =
        let e = marked-start b at (entries b) starts m fours h in
        let l = lies b (at + k) (word b (at + 2)) ps (length b) 0 e.0 s.5 (all e.0 e.1 e.2 (omega (arith, e.3))) in
        absurd (omega (arith, l.from, e.3))
    by (Used j n ∷ ps) s all total =
        let size : cost n ≡ (w + 3) / 4 * 4 = cost_is n s.0 ∙ ap (λ k. (k + 3) / 4 * 4) (sym s.3 ∙ sym is) in
        let more : Tiles b (at + (w + 3) / 4 * 4) free ps (length b) 0 = (subst (λ (k : ℕ). Tiles b (at + k) free ps (length b) 0) size s.4) in
        let fits = tiles-le b (at + (w + 3) / 4 * 4) free ps (length b) 0 more in
        let wide = cost-four n s.0 in
        let rest : (i : ℕ) → i < entries b → IsOffset (entry b i) → at + 2 < entry b i → HasChunk i ps =
        (λ i l t low. elim (all i l t (omega arith)) [
          | inl e ↦ (let d : entry b i ≡ at + 2 = ap (λ x. entry b x) e ∙ s.2 in absurd (omega arith))
          | inr g ↦ g
        ]) in (
          omega (arith, s.3, s.0),
          fits,
          clear b at free ((w + 3) / 4 * 4) ps starts m fours (omega arith) rest more,
          (ps, record { tiles = more; all = (λ i l t low. rest i l t (omega (arith, wide, size))); total = total }),
        )

pub used-back : (b : List ℕ) (at free sum w : ℕ) (starts : List Bool) → Marks b (entries b) starts → at % 4 ≡ 0 → w ≡ word b at → 3 ≤ w →
    get_or starts (at / 4) false ≡ true → Clear starts at ((w + 3) / 4 * 4) → CanTile b (at + (w + 3) / 4 * 4) free sum → CanTile b at free sum
used-back b at free sum w starts m fours is least h free_of (ps, left) =
    let e = marked-start b at (entries b) starts m fours h in
    let n : (w - 2) + 2 ≡ w = omega arith in
    let size : (w + 3) / 4 * 4 ≡ cost (w - 2) = ap (λ k. (k + 3) / 4 * 4) (sym n) ∙ sym (cost_is (w - 2) (omega arith)) in (
      Used e.0 (w - 2) ∷ ps,
      record {
        tiles = (omega arith, e.1, e.3, sym is ∙ sym n, subst (λ (k : ℕ). Tiles b (at + k) free ps (length b) 0) size left.tiles);
        all = (λ i l t low. elim (covered b at ((w + 3) / 4 * 4) ps starts m fours (omega arith) free_of left.all i l t low) [
          | inl d ↦ inl (m.once i e.0 l e.1 t (d ∙ sym e.3))
          | inr g ↦ inr g
        ]);
        total = left.total;
      },
    )

pub used-goes : (b : List ℕ) (at free sum w end : ℕ) (starts : List Bool) → Marks b (entries b) starts → at % 4 ≡ 0 → at < length b → w ≡ word b at →
    get_or starts (at / 4) false ≡ true → 3 ≤ w → end ≡ (at + w + 3) / 4 * 4 → end ≤ length b → Goes b starts at free sum end 1 free sum
used-goes b at free sum w end starts m fours inside is h least ends fits =
    let yes = marks-yes starts (at / 4) h in
    let from = at / 4 + 1 in
    let le : from ≤ end / 4 = omega arith in
    let fewer = marks-le starts from (end / 4) le in
    let same_end : at + (w + 3) / 4 * 4 ≡ end = omega arith in
    let T : ℕ → Type 0 = λ e. CanTile b e free sum in
    let C : ℕ → Type 0 = λ e. (k : ℕ) → from ≤ k → k < e / 4 → get_or starts k false ≡ true → ⊥ in
    record {
      forward = (λ can. let f = used-forward b at free sum w starts m fours inside is h can in
          let same = marks-same starts from (end / 4) le (subst C same_end f.2) in (subst T same_end f.3, omega arith));
      back = (λ can same. used-back b at free sum w starts m fours is least h
          (subst C (sym same_end) (λ k low high. marks-clear starts from (end / 4) k (omega arith) low high)) (subst T (sym same_end) can));
      marks = omega arith;
      some = omega arith;
      fours = omega arith;
      fits = fits;
      small = omega arith;
    }

-- at an offset without a mark begins a free chunk, the first one from here on
pub free-forward : (b : List ℕ) (at free sum w next : ℕ) (starts : List Bool) → Marks b (entries b) starts → at % 4 ≡ 0
    → 16 ≤ at → at < length b → w ≡ word b at → next ≡ word b (at + 2) →
    get_or starts (at / 4) false ≡ false → CanTile b at free sum →
    (free ≡ at) × (0 < w) × (w % 4 ≡ 0) × (next ≢ at + w) × (at + w ≤ length b) × Clear starts at w × CanTile b (at + w) next (sum + w)
free-forward b at free sum w next starts m fours low inside is next_is h (ps, left) = by ps left.tiles left.all left.total
  where
    by : (ps : List Piece) → Tiles b at free ps (length b) 0 → ((i : ℕ) → i < entries b → IsOffset (entry b i) → at ≤ entry b i → HasChunk i ps)
        → sum + free_bytes ps ≡ word b 14 →
        (free ≡ at) × (0 < w) × (w % 4 ≡ 0) × (next ≢ at + w) × (at + w ≤ length b) × Clear starts at w × CanTile b (at + w) next (sum + w)
    by [] s all total = absurd (omega arith)
    by (Used j n ∷ ps) s all total =
        let tells : IsOffset (entry b j) = ((λ e. absurd (omega (arith, s.2, e))), (λ e. absurd (omega (arith, s.2, e)))) in
        absurd (unmarked-start b at (entries b) starts m fours h j s.1 tells s.2)
    by (Free k ∷ ps) s all total =
        let size : k ≡ w = sym s.3 ∙ sym is in
        let more : Tiles b (at + w) next ps (length b) 0 = (let P : ℕ → ℕ → Type 0 = λ x y. Tiles b (at + x) y ps (length b) 0 in
        subst (λ (x : ℕ). P x next) size (subst (λ (y : ℕ). P k y) (sym next_is) s.5)) in
        let fits = tiles-le b (at + w) next ps (length b) 0 more in
        let rest : (i : ℕ) → i < entries b → IsOffset (entry b i) → at + 2 < entry b i → HasChunk i ps = (λ i l t lt. all i l t (omega arith)) in (
          s.2,
          omega (arith, size, s.0),
          ap (λ x. x % 4) (sym size) ∙ s.1,
          (λ e. s.4 (sym next_is ∙ e ∙ ap (λ x. at + x) (sym size))),
          fits,
          clear b at next w ps starts m fours (ap (λ x. x % 4) (sym size) ∙ s.1) rest more,
          (ps, record { tiles = more; all = (λ i l t lt. all i l t (omega arith)); total = omega (arith, total, size) }),
        )

pub free-back : (b : List ℕ) (at free sum w next : ℕ) (starts : List Bool) → Marks b (entries b) starts → at % 4 ≡ 0
    → w ≡ word b at → next ≡ word b (at + 2) →
    get_or starts (at / 4) false ≡ false → free ≡ at → 0 < w → w % 4 ≡ 0 → next ≢ at + w → Clear starts at w
    → CanTile b (at + w) next (sum + w) → CanTile b at free sum
free-back b at free sum w next starts m fours is next_is h first some four apart free_of (ps, left) = (
  Free w ∷ ps,
  record {
    tiles = (some, four, first, sym is, (λ e. apart (next_is ∙ e)), subst (λ (y : ℕ). Tiles b (at + w) y ps (length b) 0) next_is left.tiles);
    all = (λ i l t low. elim (covered b at w ps starts m fours four free_of left.all i l t low) [
      | inl d ↦ absurd (unmarked-start b at (entries b) starts m fours h i l t d)
      | inr g ↦ g
    ]);
    total = omega (arith, left.total);
  },
)

pub free-goes : (b : List ℕ) (at free sum w next : ℕ) (starts : List Bool) → Marks b (entries b) starts → at % 4 ≡ 0
    → 16 ≤ at → at < length b → w ≡ word b at → next ≡ word b (at + 2) →
    get_or starts (at / 4) false ≡ false → free ≡ at → 0 < w → w % 4 ≡ 0 → next ≢ at + w → at + w ≤ length b
    → Goes b starts at free sum (at + w) 0 next (sum + w)
free-goes b at free sum w next starts m fours low inside is next_is h first some four apart fits =
    let no = marks-no starts (at / 4) h in
    let le : at / 4 + 1 ≤ (at + w) / 4 = omega arith in
    let fewer = marks-le starts (at / 4 + 1) ((at + w) / 4) le in
    record {
      forward = (λ can. let f = free-forward b at free sum w next starts m fours low inside is next_is h can in
          let same = marks-same starts (at / 4 + 1) ((at + w) / 4) le f.5 in (f.6, omega arith));
      back = (λ can same. free-back b at free sum w next starts m fours is next_is h first some four apart
          (λ k l high. marks-clear starts (at / 4 + 1) ((at + w) / 4) k (omega arith) l high) can);
      marks = omega arith;
      some = omega arith;
      fours = omega arith;
      fits = fits;
      small = omega arith;
    }

-- at the table's end, where no place is passed
pub before : (b : List ℕ) (at : ℕ) (starts : List Bool) → Marks b (entries b) starts → at % 4 ≡ 0 → at ≡ table_end b
    → marks_from starts 0 ≡ marks_from starts (at / 4)
before b at starts m fours is = marks-same starts 0 (at / 4) (omega arith) (λ k low high h. let s = m.sound k h in
    absurd (omega (arith, s.3, (m.place s.0 s.1 s.2).0)))

pub start : (b : List ℕ) (at free : ℕ) (starts : List Bool) → Marks b (entries b) starts → at ≡ table_end b
    → free ≡ word b 12 → IsTiled b ↔ CanTile b at free 0
start b at free starts m is first =
    let P : ℕ → ℕ → List Piece → Type 0 = λ x y ps. Tiles b x y ps (length b) 0 in (
      (λ full. (
        full.0,
        record {
          tiles = (subst (λ (y : ℕ). P at y full.0) (sym first) (subst (λ (x : ℕ). P x (word b 12) full.0) (sym is) full.1.tiles));
          all = (λ i l o low. full.1.all i l o);
          total = (let e : free_bytes full.0 ≡ word b 14 = sym full.1.total in omega (arith, e));
        },
      )),
      (λ can. (
        can.0,
        record {
          tiles = (subst (λ (x : ℕ). P x (word b 12) can.0) is (subst (λ (y : ℕ). P at y can.0) first can.1.tiles));
          all = (λ i l o. can.1.all i l o (omega (arith, (m.place i l o).0)));
          total = (let e : word b 14 ≡ free_bytes can.0 = omega (arith, can.1.total) in e);
        },
      )),
    )

-- at the end
pub end-forward : (b : List ℕ) (at free sum : ℕ) → length b ≤ at → CanTile b at free sum → (free ≡ 0) × (sum ≡ word b 14)
end-forward b at free sum past (ps, left) = by ps left.tiles left.total
  where
    by : (ps : List Piece) → Tiles b at free ps (length b) 0 → sum + free_bytes ps ≡ word b 14 → (free ≡ 0) × (sum ≡ word b 14)
    by [] s total = (s.1, omega (arith, total))
    by (Used j n ∷ ps) s total =
        absurd (omega (arith, tiles-le b (at + cost n) free ps (length b) 0 s.4, cost-four n s.0))
    by (Free k ∷ ps) s total = absurd (omega (arith, tiles-le b (at + k) (word b (at + 2)) ps (length b) 0 s.5, s.0))

pub end-back : (b : List ℕ) (at free sum : ℕ) (starts : List Bool) → Marks b (entries b) starts → at ≡ length b
    → free ≡ 0 → sum ≡ word b 14 → CanTile b at free sum
end-back b at free sum starts m is none total = (
  [],
  record {
    tiles = (is, none);
    all = (λ i l t low. absurd (omega (arith, (m.place i l t).2)));
    total = omega (arith, total);
  },
)

pub behind : (b : List ℕ) (at : ℕ) (starts : List Bool) → Marks b (entries b) starts → length b ≤ at → at % 4 ≡ 0 → marks_from starts (at / 4) ≡ 0
behind b at starts m past fours = marks-none_from starts (at / 4) (λ k low h. let s = m.sound k h in
    absurd (omega (arith, s.3, (m.place s.0 s.1 s.2).2)))
