-- A heap with more bytes after its end.
use Rattle.std.proofs.Common.{◌≡◌, ℕ, ◌+◌, ◌*◌, ◌%◌, ◌<◌, ◌≤◌, ◌⊎◌, List, [], length, take, get_or, refl, ap, sym, ◌∙◌, subst, inl, inr, arith, length-take}
use Rattle.std.proofs.lemmas.List.{get_or-take}
use Rattle.geos_terms.specs.Bytes.{word, with_word, IsShifted}
use Rattle.geos_terms.specs.Block.{entry, entries, table_end, first_free, total_free, chunks, handle_word}
use Rattle.geos_terms.specs.Heap.{Tiles, IsBlockSize, IsHeap}
use Rattle.geos_terms.proofs.Words.{word-same, word-other, length-with_word, byte-other, word-bytes}
use Rattle.geos_terms.proofs.Pieces.{lies}
use Rattle.geos_terms.proofs.Moves.{tiles-kept}
use Rattle.geos_terms.proofs.Tables.{chunks-same, chunk-kept}
use Rattle.lmem_heap.specs.Holes.{IsOpen}

-- the new size is in the header, and the rest of the heap is as it was
record Longer (b e c : List ℕ) (old : ℕ) : Type 0 where
  pub long : length c ≡ length b
  pub size : word c 8 ≡ length b
  pub words : (k : ℕ) → k + 2 ≤ old → (k + 2 ≤ 8) ⊎ (10 ≤ k) → word c k ≡ word e k
  pub kept : IsShifted e c 0 0 16 old

longer : (b c : List ℕ) (old : ℕ) → old ≤ length b → length b ≤ 65520 → 16 ≤ old → c ≡ with_word b 8 (length b) → Longer b (take old b) c old
longer b c old fits most low made =
    let e = take old b in
    let byte : (k : ℕ) → k < old → (k < 8) ⊎ (10 ≤ k) → get_or c k 0 ≡ get_or e k 0 =
    (λ k l out. ap (λ x. get_or x k 0) made ∙ byte-other b 8 (length b) k out ∙ sym (get_or-take old b k 0 l)) in
    record {
      long = ap length made ∙ length-with_word b 8 (length b);
      size = ap (λ x. word x 8) made ∙ word-same b 8 (length b) (omega arith) (omega arith);
      words = (λ k l out. elim out [
        | inl a ↦ word-bytes e c k k (byte k (omega arith) (inl (omega arith))) (byte (k + 1) (omega arith) (inl (omega arith)))
        | inr a ↦ word-bytes e c k k (byte k (omega arith) (inr a)) (byte (k + 1) (omega arith) (inr (omega arith)))
      ]);
      kept = (λ j k q g r. let s : j ≡ k = omega arith in ap (λ x. get_or c x 0) s ∙ byte k r (inr (omega arith)));
    }

-- the new bytes are a hole after all pieces
pub record Enlarged (b e c : List ℕ) (old : ℕ) : Type 0 where
  pub is : IsOpen c 12 old (length b)
  pub chunks : chunks c ≡ chunks e
  pub handle : handle_word c ≡ handle_word b

pub enlarges : (b c : List ℕ) (old : ℕ) → IsHeap (take old b) → old ≤ length b → IsBlockSize (length b)
    → c ≡ with_word b 8 (length b) → Enlarged b (take old b) c old
enlarges b c old heap fits legal made =
    let e = take old b in
    let long : length e ≡ old = omega (arith, fits, length-take old b) in
    let k = longer b c old fits legal.1 (omega arith) made in
    let n : entries c ≡ entries e = k.words 10 (omega arith) (inr (omega arith)) in
    let each : (i : ℕ) → i < entries e → entry c i ≡ entry e i = (λ i l. k.words (16 + 2 * i) (omega arith) (inr (omega arith))) in
    let tiles : Tiles e (table_end e) (first_free e) heap.1.0 old 0 =
    subst (λ (x : ℕ). Tiles e (table_end e) (first_free e) heap.1.0 x 0) long heap.1.1.tiles in
    let kept : IsShifted e c 0 0 (table_end e) old = (λ j q z g r. k.kept j q z (omega arith) r) in
    let start : table_end e ≡ table_end c = ap (λ x. 16 + 2 * x) (sym n) in
    let first : first_free e ≡ word c 12 = sym (k.words 12 (omega arith) (inr (omega arith))) in
    let total : total_free c ≡ total_free e = k.words 14 (omega arith) (inr (omega arith)) in
    record {
      is = record {
        header = record {
          table = k.words 2 (omega arith) (inl (omega arith)) ∙ heap.0.table;
          flags = k.words 4 (omega arith) (inl (omega arith)) ∙ heap.0.flags;
          kind = k.words 6 (omega arith) (inl (omega arith)) ∙ heap.0.kind;
          size = k.size ∙ sym k.long;
          least = omega (arith, legal.0);
          most = omega arith;
          sixteens = ap (λ x. x % 16) k.long ∙ legal.2;
          pairs = ap (λ x. x % 2) n ∙ heap.0.pairs;
          some = omega arith;
          fits = omega arith;
        };
        before = [];
        upto = table_end c;
        ahead = heap.1.0;
        next = 0;
        behind = [];
        linked = inl (record { is = refl; none = refl; start = refl });
        tiles_ahead = subst (λ (x : ℕ). Tiles c (table_end c) x heap.1.0 old 0) first
            (subst (λ (x : ℕ). Tiles c x (first_free e) heap.1.0 old 0) start
            (tiles-kept e c (table_end e) (first_free e) heap.1.0 old 0 tiles kept (omega (arith, n)) (λ i l a z. each i l)));
        tiles_behind = (sym k.long, refl);
        order = fits;
        fours = omega (arith, heap.0.sixteens, long);
        all = (λ i l told. let lb : i < entries e = omega (arith, n) in let d = each i lb in
            inr (inl (heap.1.1.all i lb ((λ z. told.0 (d ∙ z)), (λ z. told.1 (d ∙ z))))));
        total = omega (arith, heap.1.1.total, total);
      };
      chunks = chunks-same e c n (λ i l. chunk-kept e c i (table_end e) old (omega arith) (omega arith) (each i l)
          (λ t. lies e (table_end e) (first_free e) heap.1.0 old 0 i tiles (heap.1.1.all i l t)) kept);
      handle = ap (λ x. word x 0) made ∙ word-other b 8 (length b) 0 (inl (omega arith));
    }

-- the first word of a block and of its first bytes
pub handle-take : (b : List ℕ) (n : ℕ) → 2 ≤ n → handle_word (take n b) ≡ handle_word b
handle-take b n h = word-bytes b (take n b) 0 0 (get_or-take n b 0 0 (omega arith)) (get_or-take n b 1 0 (omega arith))
