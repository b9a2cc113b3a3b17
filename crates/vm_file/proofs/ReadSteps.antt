-- The steps of reading, one field at a time.
use Rattle.std.proofs.Common.{◌≡◌, ◌≢◌, ℕ, zero, suc, ◌+◌, ◌*◌, ◌<◌, ◌≤◌, inl, inr, Bool, true, false, ◌&&◌, not, cond, List, [], ◌∷◌, ◌++◌, length, take, drop, get_or, Result, Ok, Err, refl, ap, sym, ◌∙◌, subst, arith, length-take, append_assoc}
use Rattle.std.specs.Prelude.{IsOkAnd}
use Rattle.std.specs.List.{position_or_len}
use Rattle.std.proofs.Math.Dec.{leb, ltb, eqb}
use Rattle.std.proofs.lemmas.Bool.{cases_lt, eq-eqb, eqb-true, le-leb}
use Rattle.std.proofs.lemmas.Bool.Decides.{nat_tests}
use Rattle.std.proofs.lemmas.List.{get_or-take}
use Rattle.geos_terms.specs.Bytes.{word}
use Rattle.geos_terms.specs.Block.{handle_word}
use Rattle.geos_terms.specs.Heap.{IsHeap}
use Rattle.vm_file.specs.declared.directory.Entry.{Entry}
use Rattle.geos_terms.specs.HeapTest.{is_heap}
use Rattle.vm_file.specs.Contents.{Block, entry_of}
use Rattle.vm_file.specs.Reading.{◌>>=◌, word_at, head_at, bytes_at, block_at, blocks_at, count_at, maps_at}
use Rattle.geos_terms.proofs.HeapTests.{both, and-true, heap-sound, heap-complete, lt-ltb}
use Rattle.vm_file.proofs.SpellLaws.{goes}

-- the first byte that is not zero
pub first_other : (xs : List ℕ) (i : ℕ) → i ≤ length xs → ((k : ℕ) → k < i → get_or xs k 0 ≡ 0) → (i < length xs → get_or xs i 0 ≢ 0)
    → position_or_len (λ b. not (eqb b 0)) xs ≡ i
first_other [] zero fits zeros stop = refl
first_other [] (suc i) fits zeros stop = absurd (omega arith)
first_other (x ∷ xs) zero fits zeros stop = grind (arith, nat_tests, stop (omega arith))
first_other (x ∷ xs) (suc i) fits zeros stop =
    let z : x ≡ 0 = zeros 0 (omega arith) in
    let t : eqb x 0 ≡ true = eq-eqb x 0 z in
    let rest = first_other xs i (omega arith) (λ k l. zeros (suc k) (omega arith)) (λ l. stop (omega arith)) in
    ap (λ b. cond (not (not b)) (1 + position_or_len (λ b. not (eqb b 0)) xs) 0) t ∙ ap (λ n. 1 + n) rest ∙ omega arith

ge-ltb : (a b : ℕ) → b ≤ a → ltb a b ≡ false
ge-ltb a b h = grind (arith, nat_tests)

-- a word within the bytes that are taken
word_front : (at n : ℕ) (xs : List ℕ) (k : ℕ) → k + 1 < n → word_at at (take n xs) k ≡ word_at at xs k
unfolding word
word_front at n xs k h = elim (cases_lt (k + 1) (length xs)) [
  | inl l ↦ (
      let a : ltb (k + 1) (length (take n xs)) ≡ true = lt-ltb _ _ (omega (arith, length-take n xs)) in
      let b : ltb (k + 1) (length xs) ≡ true = lt-ltb _ _ l in
      ap (λ t. cond t (Ok (word (take n xs) k)) (Err (at + k))) a
      ∙ ap (λ w. let y : Result ℕ ℕ = Ok w in y) (ap (λ x. x + 256 * get_or (take n xs) (k + 1) 0) (get_or-take n xs k 0 (omega arith))
      ∙ ap (λ x. get_or xs k 0 + 256 * x) (get_or-take n xs (k + 1) 0 h))
      ∙ sym (ap (λ t. cond t (Ok (word xs k)) (Err (at + k))) b))
  | inr g ↦ (
      let a : ltb (k + 1) (length (take n xs)) ≡ false = ge-ltb _ _ (omega (arith, length-take n xs)) in
      let b : ltb (k + 1) (length xs) ≡ false = ge-ltb _ _ g in
      ap (λ t. cond t (Ok (word (take n xs) k)) (Err (at + k))) a ∙ sym (ap (λ t. cond t (Ok (word xs k)) (Err (at + k))) b))
]

pub front_head : (last at : ℕ) (xs : List ℕ) → head_at last at (take 6 xs) ≡ head_at last at xs
unfolding head_at
front_head last at xs = rw (word_front at 6 xs 0 (omega arith), word_front at 6 xs 2 (omega arith), word_front at 6 xs 4 (omega arith)) refl

pub front_count : (at : ℕ) (xs : List ℕ) → count_at at (take 2 xs) ≡ count_at at xs
front_count at xs = rw (word_front at 2 xs 0 (omega arith)) refl

pub front_maps : (es : List Entry) (at : ℕ) (xs : List ℕ) → maps_at es at (take 6 xs) ≡ maps_at es at xs
unfolding maps_at
front_maps es at xs = rw (word_front at 6 xs 0 (omega arith), word_front at 6 xs 2 (omega arith), word_front at 6 xs 4 (omega arith)) refl

-- reading stops
pub stops : {A B : Type 0} (r : Result A ℕ) (f : A → Result B ℕ) (at : ℕ) → r ≡ Err at → (r >>= f) ≡ Err at
stops (Ok x) f at e = absurd cc
stops (Err d) f at e = let same : d ≡ at = cc in ap (λ x. let y : Result _ ℕ = Err x in y) same

pub block_stops : (last at f : ℕ) (xs : List ℕ) → head_at last at xs ≡ Err f → block_at last at xs ≡ Err f
unfolding block_at
block_stops last at f xs e = stops (head_at last at xs) _ f e

pub block_short : (last at : ℕ) (xs : List ℕ) (e : Entry) → head_at last at xs ≡ Ok e → length (drop 6 xs) < e.len
    → block_at last at xs ≡ Err (at + 6)
unfolding block_at bytes_at
block_short last at xs e is short =
    let no : leb e.len (length (drop 6 xs)) ≡ false = grind (arith, nat_tests) in
    goes _ e _ _ is (stops _ _ (at + 6)
    (ap (λ t. cond (t && is_heap (take e.len (drop 6 xs)) && eqb (handle_word (take e.len (drop 6 xs))) e.h)
    (Ok (take e.len (drop 6 xs))) (Err (at + 6))) no))

bytes_bad : (e : Entry) (at : ℕ) (xs : List ℕ) → (IsHeap (take e.len xs) → handle_word (take e.len xs) ≡ e.h → ⊥) → bytes_at e at xs ≡ Err at
unfolding bytes_at
bytes_bad e at xs bad = by (leb e.len (length xs) && is_heap (take e.len xs) && eqb (handle_word (take e.len xs)) e.h) refl
  where
    by : (t : Bool) → (leb e.len (length xs) && is_heap (take e.len xs) && eqb (handle_word (take e.len xs)) e.h) ≡ t
        → cond t (Ok (take e.len xs)) (Err at) ≡ Err at
    by true h = (let h1 = both _ _ h in let h2 = both _ _ h1.0 in absurd (bad (heap-sound _ h2.1) (eqb-true _ _ h1.1)))
    by false h = refl

pub block_bad : (last at : ℕ) (xs : List ℕ) (e : Entry) → head_at last at xs ≡ Ok e
    → (IsHeap (take e.len (drop 6 xs)) → handle_word (take e.len (drop 6 xs)) ≡ e.h → ⊥) → block_at last at xs ≡ Err (at + 6)
unfolding block_at
block_bad last at xs e is bad = goes _ e _ _ is (stops _ _ (at + 6) (bytes_bad e (at + 6) (drop 6 xs) bad))

pub block_good : (last at : ℕ) (xs : List ℕ) (e : Entry) → head_at last at xs ≡ Ok e → e.len ≤ length (drop 6 xs)
    → IsHeap (take e.len (drop 6 xs)) → handle_word (take e.len (drop 6 xs)) ≡ e.h →
    IsOkAnd (block_at last at xs) (λ b. entry_of b ≡ e)
unfolding block_at bytes_at
block_good last at xs e is long heap handle =
    let block = take e.len (drop 6 xs) in
    let made : Block = record { h = e.h; uid = e.uid; bytes = block } in
    let ok : leb e.len (length (drop 6 xs)) && is_heap block && eqb (handle_word block) e.h ≡ true =
    and-true _ _ (and-true _ _ (le-leb _ _ long) (heap-complete block heap)) (eq-eqb _ _ handle) in
    let read : block_at last at xs ≡ Ok made = goes _ e _ _ is (goes _ block _ _ (ap (λ t. cond t (Ok block) (Err (at + 6))) ok) refl) in
    let n : length block ≡ e.len = length-take e.len (drop 6 xs) ∙ omega arith in
    let P : Result Block ℕ → Type 0 = λ r. IsOkAnd r (λ b. entry_of b ≡ e) in
    subst P (sym read) (ap (λ l. let x : Entry = record { h = e.h; uid = e.uid; len = l } in x) n)

-- the blocks that were read before, followed by those that are read
abbrev pub with_front : List Block → Result (List Block) ℕ → Result (List Block) ℕ
with_front front (Ok bs) = Ok (front ++ bs)
with_front front (Err at) = Err at

-- one more block is read
pub blocks_more : (n last at : ℕ) (xs : List ℕ) (front : List Block) (b : Block) → block_at last at xs ≡ Ok b →
    with_front front (blocks_at (suc n) last at xs) ≡ with_front (front ++ b ∷ [])
    (blocks_at n b.h (at + (6 + length b.bytes)) (drop (6 + length b.bytes) xs))
blocks_more n last at xs front b is = ap (with_front front) (goes _ b _ _ is refl)
    ∙ by (blocks_at n b.h (at + (6 + length b.bytes)) (drop (6 + length b.bytes) xs))
  where
    by : (r : Result (List Block) ℕ) → with_front front (r >>= λ others. Ok (b ∷ others)) ≡ with_front (front ++ b ∷ []) r
    by (Ok bs) = ap (λ x. let y : Result (List Block) ℕ = Ok x in y) (sym (append_assoc front (b ∷ []) bs))
    by (Err at) = refl

pub blocks_stop : (n last at f : ℕ) (xs : List ℕ) (front : List Block) → block_at last at xs ≡ Err f
    → with_front front (blocks_at (suc n) last at xs) ≡ Err f
blocks_stop n last at f xs front e = ap (with_front front) (stops _ _ f e)
