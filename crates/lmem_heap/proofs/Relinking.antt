-- Blocks whose free list changes at a hole.
use Rattle.std.proofs.Common.{◌≡◌, ◌≢◌, ℕ, ◌+◌, ◌-◌, ◌*◌, ◌<◌, ◌≤◌, ◌⊎◌, List, [], ◌∷◌, length, get_or, refl, ap, sym, ◌∙◌, subst, inl, inr, arith}
use Rattle.geos_terms.specs.Bytes.{word, with_word, IsShifted}
use Rattle.geos_terms.specs.Chunks.{cost}
use Rattle.geos_terms.specs.Block.{entry, entries, table_end, first_free, total_free, chunk_at}
use Rattle.geos_terms.specs.Heap.{Piece, Used, Free, Tiles, HasChunk, IsOffset, IsHeader, free_bytes}
use Rattle.geos_terms.proofs.Words.{word-same, word-other, length-with_word, byte-other, word-bytes}
use Rattle.geos_terms.proofs.Costs.{cost-four}
use Rattle.geos_terms.proofs.Pieces.{LiesWithin, lies, tiles-le}
use Rattle.geos_terms.proofs.Moves.{tiles-kept, chunk-stays}
use Rattle.geos_terms.proofs.Tables.{chunk-cases}
use Rattle.geos_terms.proofs.Headers.{SameHead, head-word, same-header}
use Rattle.geos_terms.proofs.FreePieces.{used-any}
use Rattle.lmem_heap.specs.Holes.{IsLink, IsOpen, IsBeside}
use Rattle.lmem_heap.proofs.FreeLists.{first-behind, used-next, link-lies, link-place, open-place}

-- a byte outside a word
abbrev pub Apart : ℕ → ℕ → Type 0
Apart k at = (k < at) ⊎ (at + 2 ≤ k)

-- a word outside a word
abbrev pub Clear : ℕ → ℕ → Type 0
Clear j at = (j + 2 ≤ at) ⊎ (at + 2 ≤ j)

pub other : (b d : List ℕ) (at v k : ℕ) → d ≡ with_word b at v → Apart k at → get_or d k 0 ≡ get_or b k 0
other b d at v k is h = ap (λ x. get_or x k 0) is ∙ byte-other b at v k h

pub clear : (b d : List ℕ) (at v j : ℕ) → d ≡ with_word b at v → Clear j at → word d j ≡ word b j
clear b d at v j is h = ap (λ x. word x j) is ∙ word-other b at v j h

pub put : (b d : List ℕ) (at v : ℕ) → d ≡ with_word b at v → v < 65536 → at + 2 ≤ length b → word d at ≡ v
put b d at v is small fits = ap (λ x. word x at) is ∙ word-same b at v small fits

pub long : (b d : List ℕ) (at v : ℕ) → d ≡ with_word b at v → length d ≡ length b
long b d at v is = ap length is ∙ length-with_word b at v

-- the bytes before a hole are unchanged, except for the link
pub record Relinks (b c : List ℕ) (link at upto : ℕ) : Type 0 where
  pub long : length c ≡ length b
  pub head : SameHead b c 12
  pub each : (j : ℕ) → j < entries b → table_end b + 2 ≤ entry b j → entry b j < at → entry c j ≡ entry b j
  pub low : IsShifted b c 0 0 (table_end b) (link - 2)
  pub says : table_end b + 2 ≤ link → word c (link - 2) ≡ word b (link - 2)
  pub first : table_end b + 2 ≤ link → first_free c ≡ first_free b
  pub apart : table_end b + 2 ≤ link → word c link ≢ upto
  pub mid : IsShifted b c 0 0 upto at

pub relinked : (b c : List ℕ) (link at upto : ℕ) (before : List Piece) → IsHeader b → IsLink b link upto before
    → upto ≤ at → Relinks b c link at upto → IsLink c link upto before
relinked b c link at upto before header (inl k) le r =
    let n : entries c ≡ entries b = head-word b c 12 10 r.head (omega arith) in
    inl (record { is = k.is; none = k.none; start = omega (arith, k.start, n) })
relinked b c link at upto before header (inr k) le r =
    let n : entries c ≡ entries b = head-word b c 12 10 r.head (omega arith) in
    let front : Tiles c (table_end b) (first_free b) k.pre (link - 2) (link - 2) =
    tiles-kept b c (table_end b) (first_free b) k.pre (link - 2) (link - 2) k.front r.low (omega (arith, n))
    (λ j l a z. r.each j l a (omega (arith, k.ends))) in
    let start : table_end b ≡ table_end c = ap (λ x. 16 + 2 * x) (sym n) in
    inr (record {
      pre = k.pre;
      size = k.size;
      is = k.is;
      some = k.some;
      fours = k.fours;
      front = subst (λ (x : ℕ). Tiles c (table_end c) x k.pre (link - 2) (link - 2)) (sym (r.first k.low))
          (subst (λ (x : ℕ). Tiles c x (first_free b) k.pre (link - 2) (link - 2)) start front);
      low = omega (arith, k.low, n);
      says = r.says k.low ∙ k.says;
      apart = r.apart k.low;
      ends = k.ends;
    })

-- a hole whose other side is another
pub reopened : (b c : List ℕ) (link at end end' : ℕ) (behind : List Piece) → (s : IsBeside b link at end)
    → Relinks b c link at s.is.upto → Tiles c end' (word c link) behind (length c) 0 → at ≤ end' →
    ((i : ℕ) → i < entries c → IsOffset (entry c i) → HasChunk i s.is.before ⊎ (HasChunk i s.is.ahead ⊎ HasChunk i behind)) →
    total_free c + free_bytes s.is.behind ≡ total_free b + free_bytes behind → IsBeside c link at end'
reopened b c link at end end' behind s r tiles order all total =
    let o = s.is in
    let n : entries c ≡ entries b = head-word b c 12 10 r.head (omega arith) in
    let k = link-place b link o.upto o.before o.linked in
    let le = tiles-le b o.upto (word b link) o.ahead at o.next o.tiles_ahead in
    let ahead : Tiles c o.upto (word b link) o.ahead at o.next =
    tiles-kept b c o.upto (word b link) o.ahead at o.next o.tiles_ahead r.mid (omega (arith, n)) (λ j l a z. r.each j l (omega (arith, k.start)) z) in
    record {
      is = record {
        header = same-header b c o.header r.long r.head;
        before = o.before;
        upto = o.upto;
        ahead = o.ahead;
        next = word c link;
        behind = behind;
        linked = relinked b c link at o.upto o.before o.header o.linked le r;
        tiles_ahead = used-any c o.upto (word b link) (word c link) o.ahead at o.next s.used ahead;
        tiles_behind = tiles;
        order = order;
        fours = o.fours;
        all = all;
        total = omega (arith, o.total, total);
      };
      used = s.used;
    }

-- the bytes before a hole are unchanged, except for the link and the total
abbrev pub KeepsFront : List ℕ → List ℕ → ℕ → ℕ → Type 0
KeepsFront b c link at = (k : ℕ) → k < at → Apart k link → Apart k 14 → get_or c k 0 ≡ get_or b k 0

abbrev pub KeepsBack : List ℕ → List ℕ → ℕ → Type 0
KeepsBack b c lo = (k : ℕ) → lo ≤ k → get_or c k 0 ≡ get_or b k 0

pub kept-entry : (b c : List ℕ) (link at end j : ℕ) → IsOpen b link at end → KeepsFront b c link at → j < entries b → entry c j ≡ entry b j
kept-entry b c link at end j o keep h =
    let p = open-place b link at end o in
    let byte : (k : ℕ) → 16 ≤ k → k < table_end b → get_or c k 0 ≡ get_or b k 0 =
    (λ k g l. keep k (omega arith) (elim p.link_out [ inl e ↦ inr (omega (arith, e)) | inr f ↦ inl (omega (arith, f)) ]) (inr (omega arith))) in
    word-bytes b c (16 + 2 * j) (16 + 2 * j) (byte (16 + 2 * j) (omega arith) (omega arith)) (byte (16 + 2 * j + 1) (omega arith) (omega arith))

pub relinks : (b c : List ℕ) (link at end : ℕ) → (o : IsOpen b link at end) → length c ≡ length b → KeepsFront b c link at
    → (table_end b + 2 ≤ link → word c link ≢ o.upto) → Relinks b c link at o.upto
relinks b c link at end o same keep apart =
    let p = open-place b link at end o in
    let k = link-place b link o.upto o.before o.linked in
    record {
      long = same;
      head = (λ q h. keep q (omega arith) (inl (omega arith)) (inl (omega arith)));
      each = (λ j h a z. kept-entry b c link at end j o keep h);
      low = (λ j q e g l. let is : j ≡ q = omega arith in ap (λ x. get_or c x 0) is ∙ keep q (omega arith) (inl (omega arith)) (inr (omega arith)));
      says = (λ far. word-bytes b c (link - 2) (link - 2) (keep (link - 2) (omega arith) (inl (omega arith)) (inr (omega arith)))
          (keep (link - 2 + 1) (omega arith) (inl (omega arith)) (inr (omega arith))));
      first = (λ far. word-bytes b c 12 12 (keep 12 (omega arith) (inl (omega arith)) (inl (omega arith)))
          (keep 13 (omega arith) (inl (omega arith)) (inl (omega arith))));
      apart = apart;
      mid = (λ j q e g l. let is : j ≡ q = omega arith in ap (λ x. get_or c x 0) is ∙ keep q l (inr (omega arith)) (inr (omega arith)));
    }

-- the parts of the front that stay
pub front-kept : (b c : List ℕ) (link at end : ℕ) → IsOpen b link at end → KeepsFront b c link at → IsShifted b c 0 0 (table_end b) (link - 2)
front-kept b c link at end o keep =
    let p = open-place b link at end o in
    (λ j q e g l. let is : j ≡ q = omega arith in ap (λ x. get_or c x 0) is ∙ keep q (omega arith) (inl (omega arith)) (inr (omega arith)))

pub mid-kept : (b c : List ℕ) (link at end : ℕ) → (o : IsOpen b link at end) → KeepsFront b c link at → IsShifted b c 0 0 o.upto at
mid-kept b c link at end o keep =
    let p = open-place b link at end o in
    let k = link-place b link o.upto o.before o.linked in
    (λ j q e g l. let is : j ≡ q = omega arith in ap (λ x. get_or c x 0) is ∙ keep q l (inr (omega arith)) (inr (omega arith)))

-- a chunk whose bytes and entry stay
pub kept-chunk : (b c : List ℕ) (link at end lo j : ℕ) → (o : IsOpen b link at end) → length c ≡ length b
    → IsShifted b c 0 0 (table_end b) (link - 2) → IsShifted b c 0 0 o.upto at → IsShifted b c 0 0 lo (length b) →
    (HasChunk j o.behind → LiesWithin b (entry b j) lo (length b)) → j < entries b → entry c j ≡ entry b j
    → chunk_at c (entry c j) ≡ chunk_at b (entry b j)
kept-chunk b c link at end lo j o same front mid rear lies_behind h d =
    let p = open-place b link at end o in
    chunk-cases b c (entry b j) (entry c j) (λ z. d ∙ z) (λ z. d ∙ z) (λ u. elim (o.all j h u) [
      | inl x ↦ chunk-stays b c (table_end b) (link - 2) (entry b j) (entry c j) (link-lies b link o.upto o.before j o.linked x)
          front d (omega arith) (omega (arith, same)) u
      | inr (inl x) ↦ chunk-stays b c o.upto at (entry b j) (entry c j) (lies b o.upto (word b link) o.ahead at o.next j o.tiles_ahead x) mid d
          (omega arith) (omega (arith, same)) u
      | inr (inr x) ↦ chunk-stays b c lo (length b) (entry b j) (entry c j) (lies_behind x) rear d (omega arith) (omega (arith, same)) u
    ])

-- the free chunk after a hole
pub record FreeBehind (b : List ℕ) (link at end : ℕ) (o : IsOpen b link at end) : Type 0 where
  pub size : ℕ
  pub rest : List Piece
  pub is : o.behind ≡ Free size ∷ rest
  pub here : Tiles b end end (Free size ∷ rest) (length b) 0

free-at : (b : List ℕ) (at : ℕ) (ps : List Piece) (end : ℕ) → Tiles b at at ps end 0 → 0 < at → (size : ℕ)
    × ((rest : List Piece) × (ps ≡ Free size ∷ rest))
free-at b at [] end s low = absurd (omega (arith, s.1))
free-at b at (Used i n ∷ ps) end s low = let four = cost-four n s.0 in
    absurd (elim (first-behind b (at + cost n) at ps end s.4) [ inl e ↦ omega (arith, e) | inr h ↦ omega (arith, h, four) ])
free-at b at (Free m ∷ ps) end s low = (m, (ps, refl))

pub free-behind : (b : List ℕ) (link at end : ℕ) → (s : IsBeside b link at end) → word b link ≡ end → FreeBehind b link at end s.is
free-behind b link at end s is =
    let o = s.is in
    let p = open-place b link at end o in
    let next : o.next ≡ end = sym (used-next b o.upto (word b link) o.ahead at o.next s.used o.tiles_ahead) ∙ is in
    let tiles : Tiles b end end o.behind (length b) 0 = subst (λ (x : ℕ). Tiles b end x o.behind (length b) 0) next o.tiles_behind in
    let f = free-at b end o.behind (length b) tiles (omega arith) in
    record { size = f.0; rest = f.1.0; is = f.1.1; here = subst (λ (ps : List Piece). Tiles b end end ps (length b) 0) f.1.1 tiles }
