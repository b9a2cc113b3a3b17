-- Free chunks that are taken, and bytes that are released.
use Rattle.std.proofs.Common.{◌≡◌, ◌≢◌, ℕ, ◌+◌, ◌-◌, ◌*◌, ◌%◌, ◌<◌, ◌≤◌, ◌⊎◌, List, [], ◌∷◌, ◌++◌, length, get_or, refl, ap, sym, ◌∙◌, subst, inl, inr, arith}
use Rattle.geos_terms.specs.Bytes.{word, IsShifted}
use Rattle.geos_terms.specs.Block.{entry, entries, table_end, first_free, total_free}
use Rattle.geos_terms.specs.Heap.{Piece, Free, Tiles, HasChunk, IsOffset, free_bytes}
use Rattle.geos_terms.proofs.Words.{word-bytes}
use Rattle.geos_terms.proofs.Pieces.{LiesWithin, lies, tiles-le, has-left, has-split, free_bytes-append}
use Rattle.geos_terms.proofs.Moves.{tiles-kept}
use Rattle.geos_terms.proofs.Tables.{chunks-same}
use Rattle.geos_terms.proofs.Headers.{SameHead, head-word, same-header}
use Rattle.geos_terms.proofs.FreePieces.{nothing-left}
use Rattle.lmem_heap.specs.Holes.{IsOpen, IsBeside, Widens, GivesBack}
use Rattle.lmem_heap.proofs.FreeLists.{first-behind, used-next, link-place, open-place, open-heap}
use Rattle.lmem_heap.proofs.Relinking.{Apart, KeepsFront, KeepsBack, reopened, relinks, kept-entry, kept-chunk, front-kept, mid-kept, FreeBehind, free-behind}

front-head : (b c : List ℕ) (link at end : ℕ) → IsOpen b link at end → KeepsFront b c link at → SameHead b c 12
front-head b c link at end o keep =
    let p = open-place b link at end o in
    (λ q h. keep q (omega arith) (inl (omega arith)) (inl (omega arith)))

back-kept : (b c : List ℕ) (lo hi end : ℕ) → KeepsBack b c lo → lo ≤ hi → IsShifted b c 0 0 hi end
back-kept b c lo hi end back le j q e g l = let is : j ≡ q = omega arith in ap (λ x. get_or c x 0) is ∙ back q (omega arith)

back-entries : (b c : List ℕ) (link at end i : ℕ) (ps : List Piece) → (o : IsOpen b link at end) → KeepsFront b c link at
    → entries c ≡ entries b → (HasChunk i o.behind → HasChunk i ps) → i < entries c → IsOffset (entry c i) →
    HasChunk i o.before ⊎ (HasChunk i o.ahead ⊎ HasChunk i ps)
back-entries b c link at end i ps o keep n to h t =
    let l : i < entries b = omega (arith, n) in
    let d = kept-entry b c link at end i o keep l in
    let u : IsOffset (entry b i) = ((λ z. t.0 (d ∙ z)), (λ z. t.1 (d ∙ z))) in
    elim (o.all i l u) [ inl x ↦ inl x | inr x ↦ elim x [ inl y ↦ inr (inl y) | inr y ↦ inr (inr (to y)) ] ]

-- the chunks after the free chunk that follows a hole
free-lies : (b : List ℕ) (link at end j : ℕ) → (s : IsBeside b link at end) → (f : FreeBehind b link at end s.is)
    → HasChunk j s.is.behind → LiesWithin b (entry b j) (end + f.size) (length b)
free-lies b link at end j s f h =
    let x : HasChunk j f.rest = subst (λ (ps : List Piece). HasChunk j ps) f.is h in
    lies b (end + f.size) (word b (end + 2)) f.rest (length b) 0 j f.here.5 x

-- the whole free chunk after a hole
pub took-whole : (b c : List ℕ) (link at end : ℕ) → IsBeside b link at end → word b link ≡ end → length c ≡ length b
    → KeepsFront b c link end → KeepsBack b c end →
    word c link ≡ word b (end + 2) → total_free c + word b end ≡ total_free b → Widens b c link at end (end + word b end)
    × (word c link ≢ end + word b end)
took-whole b c link at end s is same all_keep back says total =
    let o = s.is in
    let p = open-place b link at end o in
    let keep : KeepsFront b c link at = (λ q h u v. all_keep q (omega arith) u v) in
    let inner : IsShifted b c 0 0 at end = (λ j q e g l. let q_is : j ≡ q = omega arith in ap (λ x. get_or c x 0) q_is
    ∙ all_keep q l (inr (omega arith)) (inr (omega arith))) in
    let f = free-behind b link at end s is in
    let size : word b end ≡ f.size = f.here.3 in
    let n : entries c ≡ entries b = head-word b c 12 10 (front-head b c link at end o keep) (omega arith) in
    let k = link-place b link o.upto o.before o.linked in
    let le = tiles-le b o.upto (word b link) o.ahead at o.next o.tiles_ahead in
    let apart : word c link ≢ o.upto =
    (λ e. absurd (elim (first-behind b (end + f.size) (word b (end + 2)) f.rest (length b) f.here.5)
    [ inl z ↦ omega (arith, e, z, says) | inr h ↦ omega (arith, e, h, says) ])) in
    let rest : Tiles c (end + f.size) (word b (end + 2)) f.rest (length b) 0 =
    tiles-kept b c (end + f.size) (word b (end + 2)) f.rest (length b) 0 f.here.5 (back-kept b c end (end + f.size) (length b) back (omega arith))
    (omega (arith, n)) (λ j l a z. kept-entry b c link at end j o keep l) in
    let place : end + f.size ≡ end + word b end = omega (arith, size) in
    let tiles : Tiles c (end + word b end) (word c link) f.rest (length c) 0 =
    subst (λ (x : ℕ). Tiles c (end + word b end) (word c link) f.rest x 0) (sym same)
    (subst (λ (x : ℕ). Tiles c (end + word b end) x f.rest (length b) 0) (sym says)
    (subst (λ (x : ℕ). Tiles c x (word b (end + 2)) f.rest (length b) 0) place rest)) in (
      record {
        beside = reopened b c link at end (end + word b end) f.rest s (relinks b c link at end o same keep (λ far. apart)) tiles (omega arith)
            (λ i h t. back-entries b c link at end i f.rest o keep n (λ x. subst (λ (ps : List Piece). HasChunk i ps) f.is x) h t)
            (let g = ap free_bytes f.is in omega (arith, g, total, size));
        chunks = chunks-same b c n (λ j h. kept-chunk b c link at end (end + f.size) j o same (front-kept b c link at end o keep)
            (mid-kept b c link at end o keep) (back-kept b c end (end + f.size) (length b) back (omega arith))
            (free-lies b link at end j s f) h (kept-entry b c link at end j o keep h));
        count = n;
        each = (λ j h. kept-entry b c link at end j o keep h);
        bytes = inner;
        handle = head-word b c 12 0 (front-head b c link at end o keep) (omega arith);
      },
      (λ e. f.here.4 (sym says ∙ e ∙ sym place)),
    )

-- the front of it
pub took-front : (b c : List ℕ) (link at end size : ℕ) → IsBeside b link at end → word b link ≡ end → 0 < size
    → size % 4 ≡ 0 → size < word b end → length c ≡ length b → KeepsFront b c link end → KeepsBack b c (end + size + 4) →
    word c link ≡ end + size → word c (end + size) ≡ word b end - size → word c (end + size + 2) ≡ word b (end + 2)
    → total_free c + size ≡ total_free b → Widens b c link at end (end + size)
took-front b c link at end size s is pos fours less same all_keep back says left next total =
    let o = s.is in
    let p = open-place b link at end o in
    let keep : KeepsFront b c link at = (λ q h u v. all_keep q (omega arith) u v) in
    let inner : IsShifted b c 0 0 at end = (λ j q e g l. let q_is : j ≡ q = omega arith in ap (λ x. get_or c x 0) q_is
    ∙ all_keep q l (inr (omega arith)) (inr (omega arith))) in
    let f = free-behind b link at end s is in
    let whole : word b end ≡ f.size = f.here.3 in
    let n : entries c ≡ entries b = head-word b c 12 10 (front-head b c link at end o keep) (omega arith) in
    let k = link-place b link o.upto o.before o.linked in
    let le = tiles-le b o.upto (word b link) o.ahead at o.next o.tiles_ahead in
    let room : end + size + 4 ≤ end + f.size = omega (arith, less, whole, fours, f.here.1) in
    let apart : word c link ≢ o.upto = (λ e. absurd (omega (arith, e, says))) in
    let rear = back-kept b c (end + size + 4) (end + f.size) (length b) back room in
    let rest : Tiles c (end + f.size) (word b (end + 2)) f.rest (length b) 0 =
    tiles-kept b c (end + f.size) (word b (end + 2)) f.rest (length b) 0 f.here.5 rear (omega (arith, n))
    (λ j l a z. kept-entry b c link at end j o keep l) in
    let place : end + f.size ≡ end + size + (word b end - size) = omega (arith, whole, less) in
    let tiles : Tiles c (end + size) (word c link) (Free (word b end - size) ∷ f.rest) (length b) 0 = (
      omega (arith, less),
      omega (arith, whole, fours, f.here.1, less),
      says,
      left,
      (λ e. f.here.4 (sym next ∙ e ∙ sym place)),
      subst (λ (x : ℕ). Tiles c (end + size + (word b end - size)) x f.rest (length b) 0) (sym next)
          (subst (λ (x : ℕ). Tiles c x (word b (end + 2)) f.rest (length b) 0) place rest),
    ) in
    record {
      beside = reopened b c link at end (end + size) (Free (word b end - size) ∷ f.rest) s
          (relinks b c link at end o same keep (λ far. apart))
          (subst (λ (x : ℕ). Tiles c (end + size) (word c link) (Free (word b end - size) ∷ f.rest) x 0) (sym same) tiles) (omega arith)
          (λ i h t. back-entries b c link at end i (Free (word b end - size) ∷ f.rest) o keep n
          (λ x. subst (λ (ps : List Piece). HasChunk i ps) f.is x) h t)
          (let g = ap free_bytes f.is in omega (arith, g, total, whole, less));
      chunks = chunks-same b c n (λ j h. kept-chunk b c link at end (end + f.size) j o same (front-kept b c link at end o keep)
          (mid-kept b c link at end o keep) rear (free-lies b link at end j s f) h (kept-entry b c link at end j o keep h));
      count = n;
      each = (λ j h. kept-entry b c link at end j o keep h);
      bytes = inner;
      handle = head-word b c 12 0 (front-head b c link at end o keep) (omega arith);
    }

-- a free chunk where the hole was, with the link to it
pub linked-in : (b c : List ℕ) (link at end : ℕ) → IsBeside b link at end → at < end → end % 4 ≡ 0 → word b link ≢ end
    → (table_end b + 2 ≤ link → link - 2 + word b (link - 2) ≢ at) →
    length c ≡ length b → KeepsFront b c link at → KeepsBack b c end → word c link ≡ at → word c at ≡ end - at
    → word c (at + 2) ≡ word b link → total_free c ≡ total_free b + (end - at) → GivesBack b c
linked-in b c link at end s less fours apart alone same keep back says size next total =
    let o = s.is in
    let p = open-place b link at end o in
    let n : entries c ≡ entries b = head-word b c 12 10 (front-head b c link at end o keep) (omega arith) in
    let is : word b link ≡ o.next = used-next b o.upto (word b link) o.ahead at o.next s.used o.tiles_ahead in
    let away : table_end b + 2 ≤ link → word c link ≢ o.upto = (λ far e. elim o.linked [
      | inl k ↦ (absurd (omega (arith, k.is, far)))
      | inr k ↦ (alone far (omega (arith, k.ends, k.says, says, e)))
    ]) in
    let rear = back-kept b c end end (length b) back (omega arith) in
    let behind : Tiles c end o.next o.behind (length b) 0 = tiles-kept b c end o.next o.behind (length b) 0 o.tiles_behind rear
    (omega (arith, n)) (λ j l a z. kept-entry b c link at end j o keep l) in
    let place : end ≡ at + (end - at) = omega arith in
    let tiles : Tiles c at (word c link) (Free (end - at) ∷ o.behind) (length b) 0 = (
      omega arith,
      omega (arith, fours, o.fours),
      says,
      size,
      (λ e. apart (sym next ∙ e ∙ sym place)),
      subst (λ (x : ℕ). Tiles c (at + (end - at)) x o.behind (length b) 0) (sym is ∙ sym next)
          (subst (λ (x : ℕ). Tiles c x o.next o.behind (length b) 0) place behind),
    ) in
    let r = reopened b c link at end at (Free (end - at) ∷ o.behind) s (relinks b c link at end o same keep away)
    (subst (λ (x : ℕ). Tiles c at (word c link) (Free (end - at) ∷ o.behind) x 0) (sym same) tiles) (omega arith)
    (λ i h t. back-entries b c link at end i (Free (end - at) ∷ o.behind) o keep n (λ x. x) h t) (omega (arith, total)) in
    record {
      heap = open-heap c link at r.is;
      chunks = chunks-same b c n (λ j h. kept-chunk b c link at end end j o same (front-kept b c link at end o keep)
          (mid-kept b c link at end o keep) rear (λ x. lies b end o.next o.behind (length b) 0 j o.tiles_behind x) h
          (kept-entry b c link at end j o keep h));
      handle = head-word b c 12 0 (front-head b c link at end o keep) (omega arith);
    }

-- the free chunk before the hole, with the hole's bytes
pub merged-before : (b c : List ℕ) (link at end : ℕ) → IsBeside b link at end → at < end → end % 4 ≡ 0 → word b link ≢ end
    → table_end b + 2 ≤ link → link - 2 + word b (link - 2) ≡ at →
    length c ≡ length b → ((k : ℕ) → k < at → Apart k (link - 2) → Apart k 14 → get_or c k 0 ≡ get_or b k 0)
    → KeepsBack b c end → word c (link - 2) ≡ end - (link - 2) → total_free c ≡ total_free b + (end - at) → GivesBack b c
merged-before b c link at end s less fours apart far touch same keep back size total = elim s.is.linked [
  | inl k ↦ (absurd (omega (arith, k.is, far)))
  | inr k ↦ (let o = s.is in let p = open-place b link at end o in
      let upto : o.upto ≡ at = omega (arith, k.ends, k.says, touch) in
      let head : SameHead b c 12 = (λ q h. keep q (omega arith) (inl (omega arith)) (inl (omega arith))) in
      let n : entries c ≡ entries b = head-word b c 12 10 head (omega arith) in
      let each : (j : ℕ) → j < entries b → entry c j ≡ entry b j =
      (λ j h. word-bytes b c (16 + 2 * j) (16 + 2 * j) (keep (16 + 2 * j) (omega arith) (inl (omega arith)) (inr (omega arith)))
      (keep (16 + 2 * j + 1) (omega arith) (inl (omega arith)) (inr (omega arith)))) in
      let front : IsShifted b c 0 0 (table_end b) (link - 2) = (λ j q e g l. let is : j ≡ q = omega arith in
      ap (λ x. get_or c x 0) is ∙ keep q (omega arith) (inl (omega arith)) (inr (omega arith))) in
      let mid : IsShifted b c 0 0 o.upto at = (λ j q e g l. absurd (omega (arith, upto))) in
      let rear = back-kept b c end end (length b) back (omega arith) in
      let first : first_free c ≡ first_free b = word-bytes b c 12 12 (keep 12 (omega arith) (inl (omega arith)) (inl (omega arith)))
      (keep 13 (omega arith) (inl (omega arith)) (inl (omega arith))) in
      let next : word c link ≡ word b link = word-bytes b c link link (keep link (omega arith) (inr (omega arith)) (inr (omega arith)))
      (keep (link + 1) (omega arith) (inr (omega arith)) (inr (omega arith))) in
      let none : o.ahead ≡ [] = nothing-left b o.upto (word b link) o.ahead at o.next (omega (arith, upto)) o.tiles_ahead in
      let is : word b link ≡ o.next = used-next b o.upto (word b link) o.ahead at o.next s.used o.tiles_ahead in
      let start : table_end b ≡ table_end c = ap (λ x. 16 + 2 * x) (sym n) in
      let pre : Tiles c (table_end b) (first_free b) k.pre (link - 2) (link - 2) = tiles-kept b c (table_end b)
      (first_free b) k.pre (link - 2) (link - 2) k.front front (omega (arith, n)) (λ j l a z. each j l) in
      let behind : Tiles c end o.next o.behind (length b) 0 = tiles-kept b c end o.next o.behind (length b) 0
      o.tiles_behind rear (omega (arith, n)) (λ j l a z. each j l) in
      let left = end - (link - 2) in
      let opened : IsOpen c link end end = record {
        header = same-header b c o.header same head;
        before = k.pre ++ (Free left ∷ []);
        upto = end;
        ahead = [];
        next = o.next;
        behind = o.behind;
        linked = inr (record {
          pre = k.pre;
          size = left;
          is = refl;
          some = omega (arith, less, p.link_high);
          fours = (let w : link - 2 + k.size ≡ at = omega (arith, k.says, touch) in omega (arith, fours, o.fours, k.fours, w, less));
          front = subst (λ (x : ℕ). Tiles c (table_end c) x k.pre (link - 2) (link - 2)) (sym first)
              (subst (λ (x : ℕ). Tiles c x (first_free b) k.pre (link - 2) (link - 2)) start pre);
          low = omega (arith, far, n);
          says = size;
          apart = (λ e. apart (sym next ∙ e));
          ends = omega (arith, less, p.link_high);
        });
        tiles_ahead = (refl, next ∙ is);
        tiles_behind = subst (λ (x : ℕ). Tiles c end o.next o.behind x 0) (sym same) behind;
        order = omega arith;
        fours = fours;
        all = (λ i h t. let l : i < entries b = omega (arith, n) in let d = each i l in let u : IsOffset (entry b i) =
            ((λ z. t.0 (d ∙ z)), (λ z. t.1 (d ∙ z))) in
            let H : List Piece → Type 0 = λ ps. HasChunk i ps in
            elim (o.all i l u) [
              | inl x ↦ inl (elim (has-split i k.pre (Free k.size ∷ []) (subst H k.is x))
                  [ inl y ↦ has-left i k.pre (Free left ∷ []) y | inr y ↦ absurd y ])
              | inr x ↦ elim x [ inl y ↦ inr (inl (subst H none y)) | inr y ↦ inr (inr y) ]
            ]);
        total = (let f1 = ap free_bytes k.is ∙ free_bytes-append k.pre (Free k.size ∷ []) in let f3 = ap free_bytes none in
            omega (arith, o.total, total, f1, free_bytes-append k.pre (Free left ∷ []), f3, k.says, touch, less, p.link_high));
      } in
      record {
        heap = open-heap c link end opened;
        chunks = chunks-same b c n (λ j h. kept-chunk b c link at end end j o same front mid rear
            (λ x. lies b end o.next o.behind (length b) 0 j o.tiles_behind x) h (each j h));
        handle = head-word b c 12 0 head (omega arith);
      })
]
