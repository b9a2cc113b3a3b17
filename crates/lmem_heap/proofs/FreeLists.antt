-- The free list of a heap with a hole: how it is walked.
use Rattle.std.proofs.Common.{◌≡◌, ◌≢◌, ℕ, ◌+◌, ◌-◌, ◌%◌, ◌<◌, ◌≤◌, ◌⊎◌, List, [], ◌∷◌, ◌++◌, length, refl, ap, sym, ◌∙◌, subst, inl, inr, arith}
use Rattle.geos_terms.specs.Bytes.{word}
use Rattle.geos_terms.specs.Chunks.{cost}
use Rattle.geos_terms.specs.Block.{entry, table_end, first_free, total_free}
use Rattle.geos_terms.specs.Heap.{Piece, Used, Free, Tiles, HasChunk, AreUsed, IsHeap, free_bytes}
use Rattle.geos_terms.proofs.Costs.{cost-fours}
use Rattle.geos_terms.proofs.Pieces.{LiesWithin, lies, tiles-le, tiles-join, has-split, has-left, has-right, free_bytes-append}
use Rattle.geos_terms.proofs.FreePieces.{nothing-left}
use Rattle.lmem_heap.specs.Holes.{IsLink, IsOpen, IsBeside, FitsBehind}

-- the first free piece is the end's next one, or not before the end
pub first-behind : (b : List ℕ) (at f : ℕ) (ps : List Piece) (end : ℕ) → Tiles b at f ps end 0 → (f ≡ 0) ⊎ (at ≤ f)
first-behind b at f [] end s = inl s.1
first-behind b at f (Used i n ∷ ps) end s = elim (first-behind b (at + cost n) f ps end s.4) [ inl e ↦ inl e | inr h ↦ inr (omega arith) ]
first-behind b at f (Free m ∷ ps) end s = inr (omega (arith, s.2))

-- pieces before the first free one are chunks
pub none-before : (b : List ℕ) (at f : ℕ) (ps : List Piece) (end next : ℕ) → Tiles b at f ps end next → 0 < at → (f ≡ 0) ⊎ (end ≤ f) → AreUsed ps
none-before b at f [] end next s low h = tt
none-before b at f (Used i n ∷ ps) end next s low h = none-before b (at + cost n) f ps end next s.4 (omega arith) h
none-before b at f (Free m ∷ ps) end next s low h =
    let le = tiles-le b (at + m) (word b (at + 2)) ps end next s.5 in
    absurd (elim h [ inl z ↦ omega (arith, z, s.2) | inr g ↦ omega (arith, g, s.2, le, s.0) ])

-- chunks leave the next free one as it is
pub used-next : (b : List ℕ) (at f : ℕ) (ps : List Piece) (end next : ℕ) → AreUsed ps → Tiles b at f ps end next → f ≡ next
used-next b at f [] end next u s = s.1
used-next b at f (Used i n ∷ ps) end next u s = used-next b (at + cost n) f ps end next u s.4
used-next b at f (Free m ∷ ps) end next u s = absurd u

-- a free piece, and the chunks before it
pub record Reached (b : List ℕ) (at f : ℕ) (ps : List Piece) (end next : ℕ) : Type 0 where
  pub pre : List Piece
  pub size : ℕ
  pub rest : List Piece
  pub is : ps ≡ pre ++ (Free size ∷ rest)
  pub used : AreUsed pre
  pub front : Tiles b at f pre f f
  pub here : Tiles b f f (Free size ∷ rest) end next

pub reach : (b : List ℕ) (at f : ℕ) (ps : List Piece) (end next : ℕ) → Tiles b at f ps end next → f < end
    → (next ≡ 0) ⊎ (end ≤ next) → f ≢ 0 → Reached b at f ps end next
reach b at f [] end next s l n ne = absurd (elim n [ inl z ↦ ne (s.1 ∙ z) | inr g ↦ omega (arith, g, s.1, l) ])
reach b at f (Used i m ∷ ps) end next s l n ne =
    let r = reach b (at + cost m) f ps end next s.4 l n ne in
    record {
      pre = Used i m ∷ r.pre;
      size = r.size;
      rest = r.rest;
      is = ap (λ xs. Used i m ∷ xs) r.is;
      used =
          r.used;
      front = (s.0, s.1, s.2, s.3, r.front);
      here = r.here;
    }
reach b at f (Free m ∷ ps) end next s l n ne =
    record {
      pre = [];
      size = m;
      rest = ps;
      is = refl;
      used = tt;
      front = (sym s.2, refl);
      here =
          subst (λ (x : ℕ). Tiles b x f (Free m ∷ ps) end next) (sym s.2) s;
    }

-- free pieces take no more than their place
pub free-le : (b : List ℕ) (at f : ℕ) (ps : List Piece) (end next : ℕ) → Tiles b at f ps end next → at + free_bytes ps ≤ end
free-le b at f [] end next s = omega (arith, s.0)
free-le b at f (Used i n ∷ ps) end next s = omega (arith, free-le b (at + cost n) f ps end next s.4)
free-le b at f (Free m ∷ ps) end next s = omega (arith, free-le b (at + m) (word b (at + 2)) ps end next s.5)

-- pieces begin and end at fours
pub tiles-fours : (b : List ℕ) (at f : ℕ) (ps : List Piece) (end next : ℕ) → Tiles b at f ps end next → at % 4 ≡ 0 → end % 4 ≡ 0
tiles-fours b at f [] end next s h = omega (arith, s.0, h)
tiles-fours b at f (Used i n ∷ ps) end next s h = tiles-fours b (at + cost n) f ps end next s.4 (omega (arith, cost-fours n, h))
tiles-fours b at f (Free m ∷ ps) end next s h = tiles-fours b (at + m) (word b (at + 2)) ps end next s.5 (omega (arith, s.1, h))

-- the pieces of a link
pub link-tiles : (b : List ℕ) (link upto : ℕ) (before : List Piece) → IsLink b link upto before
    → Tiles b (table_end b) (first_free b) before upto (word b link)
link-tiles b link upto before (inl k) =
    subst (λ (ps : List Piece). Tiles b (table_end b) (first_free b) ps upto (word b link)) (sym k.none) (sym k.start, ap (word b) (sym k.is))
link-tiles b link upto before (inr k) =
    let place : link - 2 + 2 ≡ link = omega arith in
    let w : word b (link - 2 + 2) ≡ word b link = ap (word b) place in
    let here : Tiles b (link - 2) (link - 2) (Free k.size ∷ []) upto (word b link) =
    (k.some, k.fours, refl, k.says, (λ e. k.apart (sym w ∙ e ∙ sym k.ends)), (sym k.ends, w)) in
    subst (λ (ps : List Piece). Tiles b (table_end b) (first_free b) ps upto (word b link)) (sym k.is)
    (tiles-join b (table_end b) (first_free b) k.pre (Free k.size ∷ []) (link - 2) (link - 2) upto (word b link) k.front here)

-- its chunks lie before it
pub link-lies : (b : List ℕ) (link upto : ℕ) (before : List Piece) (j : ℕ) → IsLink b link upto before → HasChunk j before
    → LiesWithin b (entry b j) (table_end b) (link - 2)
link-lies b link upto before j (inl k) h =
    let no : HasChunk j [] = subst (λ (ps : List Piece). HasChunk j ps) k.none h in
    absurd no
link-lies b link upto before j (inr k) h =
    elim (has-split j k.pre (Free k.size ∷ []) (subst (λ (ps : List Piece). HasChunk j ps) k.is h))
    [ inl x ↦ lies b (table_end b) (first_free b) k.pre (link - 2) (link - 2) j k.front x | inr x ↦ absurd x ]

-- where a link lies
pub record LinkPlace (b : List ℕ) (link upto : ℕ) : Type 0 where
  pub low : 12 ≤ link
  pub start : table_end b ≤ upto
  pub within : link + 2 ≤ upto
  pub out : (link ≡ 12) ⊎ (table_end b + 2 ≤ link)

pub link-place : (b : List ℕ) (link upto : ℕ) (before : List Piece) → IsLink b link upto before → LinkPlace b link upto
link-place b link upto before (inl k) =
    record { low = omega (arith, k.is); start = omega (arith, k.start); within = omega (arith, k.is, k.start); out = inl k.is }
link-place b link upto before (inr k) =
    let four : 4 ≤ k.size = omega (arith, k.some, k.fours) in
    record { low = omega (arith, k.low); start = omega (arith, k.low, k.ends, four); within = omega (arith, k.low, k.ends, four); out = inr k.low }

-- a heap is open at its end, with nothing in the hole
pub heap-open : (b : List ℕ) → IsHeap b → IsOpen b 12 (length b) (length b)
heap-open b heap =
    record {
      header = heap.0;
      before = [];
      upto = table_end b;
      ahead = heap.1.0;
      next = 0;
      behind = [];
      linked = inl (record { is = refl; none = refl; start = refl });
      tiles_ahead = heap.1.1.tiles;
      tiles_behind = (refl, refl);
      order = omega arith;
      fours = omega (arith, heap.0.sixteens);
      all = (λ i h t. inr (inl (heap.1.1.all i h t)));
      total = omega (arith, heap.1.1.total);
    }

-- with nothing in the hole it is a heap
pub open-heap : (b : List ℕ) (link at : ℕ) → IsOpen b link at at → IsHeap b
open-heap b link at o =
    let ps = o.before ++ (o.ahead ++ o.behind) in (
      o.header,
      (
        ps,
        record {
          tiles = tiles-join b (table_end b) (first_free b) o.before (o.ahead ++ o.behind) o.upto (word b link)
              (length b) 0 (link-tiles b link o.upto o.before o.linked)
              (tiles-join b o.upto (word b link) o.ahead o.behind at o.next (length b) 0 o.tiles_ahead o.tiles_behind);
          all = (λ i h t. elim (o.all i h t) [
            | inl x ↦ has-left i o.before (o.ahead ++ o.behind) x
            | inr x ↦ has-right i o.before (o.ahead ++ o.behind)
                (elim x [ inl y ↦ has-left i o.ahead o.behind y | inr y ↦ has-right i o.ahead o.behind y ])
          ]);
          total = omega (arith, o.total, free_bytes-append o.before (o.ahead ++ o.behind), free_bytes-append o.ahead o.behind);
        },
      ),
    )

-- the bounds of a hole
pub record OpenPlace (b : List ℕ) (link at end : ℕ) : Type 0 where
  pub link_low : 12 ≤ link
  pub link_high : link + 2 ≤ at
  pub link_out : (link ≡ 12) ⊎ (table_end b + 2 ≤ link)
  pub low : table_end b ≤ at
  pub table : 20 ≤ table_end b
  pub high : end ≤ length b
  pub most : length b ≤ 65520
  pub room : table_end b + total_free b + (end - at) ≤ length b

pub open-place : (b : List ℕ) (link at end : ℕ) → IsOpen b link at end → OpenPlace b link at end
open-place b link at end o =
    let k = link-place b link o.upto o.before o.linked in
    let a = tiles-le b o.upto (word b link) o.ahead at o.next o.tiles_ahead in
    let z = tiles-le b end o.next o.behind (length b) 0 o.tiles_behind in
    let f1 = free-le b (table_end b) (first_free b) o.before o.upto (word b link) (link-tiles b link o.upto o.before o.linked) in
    let f2 = free-le b o.upto (word b link) o.ahead at o.next o.tiles_ahead in
    let f3 = free-le b end o.next o.behind (length b) 0 o.tiles_behind in
    record {
      link_low = k.low;
      link_high = omega (arith, k.within, a);
      link_out = k.out;
      low = omega (arith, k.start, a);
      table =
          omega (arith, o.header.some);
      high = z;
      most = o.header.most;
      room = omega (arith, f1, f2, f3, o.total, o.order);
    }

-- what the last free chunk before the hole leaves
next-behind : (b : List ℕ) (link at end : ℕ) → (o : IsOpen b link at end) → (o.next ≡ 0) ⊎ (at ≤ o.next)
next-behind b link at end o = elim (first-behind b end o.next o.behind (length b) o.tiles_behind)
    [ inl e ↦ inl e | inr h ↦ (inr (omega (arith, h, o.order))) ]

-- the next free chunk before the hole
pub record NextChunk (b : List ℕ) (link at end : ℕ) : Type 0 where
  pub is : IsOpen b (word b link + 2) at end
  pub above : link < word b link
  pub inside : word b link + word b (word b link) ≤ at
  pub four : 4 ≤ word b (word b link)
  pub place : word b link % 4 ≡ 0

pub open-next : (b : List ℕ) (link at end : ℕ) → IsOpen b link at end → word b link ≢ 0 → word b link < at → NextChunk b link at end
open-next b link at end o ne l =
    let f = word b link in
    let r = reach b o.upto f o.ahead at o.next o.tiles_ahead l (next-behind b link at end o) ne in
    let k = link-place b link o.upto o.before o.linked in
    let p = tiles-le b o.upto f r.pre f f r.front in
    let q = tiles-le b (f + r.size) (word b (f + 2)) r.rest at o.next r.here.5 in
    let start_fours : table_end b % 4 ≡ 0 = omega (arith, o.header.pairs) in
    let back : f + 2 - 2 ≡ f = omega arith in
    let front : Tiles b (table_end b) (first_free b) (o.before ++ r.pre) f f = tiles-join b (table_end b)
    (first_free b) o.before r.pre o.upto f f f (link-tiles b link o.upto o.before o.linked) r.front in
    let split : (i : ℕ) → HasChunk i o.ahead → HasChunk i r.pre ⊎ HasChunk i (Free r.size ∷ r.rest) =
    (λ i h. has-split i r.pre (Free r.size ∷ r.rest) (subst (λ (ps : List Piece). HasChunk i ps) r.is h)) in
    record {
      is = record {
        header = o.header;
        before = (o.before ++ r.pre) ++ (Free r.size ∷ []);
        upto = f + r.size;
        ahead = r.rest;
        next = o.next;
        behind = o.behind;
        linked = inr (record {
          pre = o.before ++ r.pre;
          size = r.size;
          is = refl;
          some = r.here.0;
          fours = r.here.1;
          front = subst (λ (x : ℕ). Tiles b (table_end b) (first_free b) (o.before ++ r.pre) x x) (sym back) front;
          low = omega (arith, k.start, p);
          says = ap (word b) back ∙ r.here.3;
          apart = r.here.4;
          ends = omega arith;
        });
        tiles_ahead = r.here.5;
        tiles_behind = o.tiles_behind;
        order = o.order;
        fours = o.fours;
        all = (λ i h t. elim (o.all i h t) [
          | inl x ↦ inl (has-left i (o.before ++ r.pre) (Free r.size ∷ []) (has-left i o.before r.pre x))
          | inr (inl y) ↦ elim (split i y) [
            | inl z ↦ inl (has-left i (o.before ++ r.pre) (Free r.size ∷ []) (has-right i o.before r.pre z))
            | inr z ↦ inr (inl z)
          ]
          | inr (inr y) ↦ inr (inr y)
        ]);
        total = (let u = ap free_bytes r.is ∙ free_bytes-append r.pre (Free r.size ∷ r.rest) in
            omega (arith, o.total, free_bytes-append (o.before ++ r.pre) (Free r.size ∷ []), free_bytes-append o.before r.pre, u));
      };
      above = omega (arith, k.within, p);
      inside = omega (arith, q, r.here.3);
      four = omega (arith, r.here.0, r.here.1, r.here.3);
      place = tiles-fours b (table_end b) (first_free b) (o.before ++ r.pre) f f front start_fours;
    }

-- where there is none before the hole
pub open-beside : (b : List ℕ) (link at end : ℕ) → IsOpen b link at end → (word b link ≡ 0) ⊎ (at ≤ word b link) → IsBeside b link at end
open-beside b link at end o h =
    let k = link-place b link o.upto o.before o.linked in
    record { is = o; used = none-before b o.upto (word b link) o.ahead at o.next o.tiles_ahead (omega (arith, k.low, k.within)) h }

-- a free chunk lies before the end
free-below : (b : List ℕ) (at f : ℕ) (ps : List Piece) (end next : ℕ) → Tiles b at f ps end next → next ≡ 0 → f ≢ 0 → f < end
free-below b at f [] end next s z ne = absurd (ne (s.1 ∙ z))
free-below b at f (Used i n ∷ ps) end next s z ne = free-below b (at + cost n) f ps end next s.4 z ne
free-below b at f (Free m ∷ ps) end next s z ne =
    omega (arith, tiles-le b (at + m) (word b (at + 2)) ps end next s.5, s.2, s.0)

-- the next free chunk of a heap, after an empty hole
pub open-fits : (b : List ℕ) (link : ℕ) → IsOpen b link (length b) (length b) → word b link ≢ 0 → (size : ℕ)
    → size ≤ word b (word b link) → FitsBehind b link (word b link) (word b link) size
open-fits b link o ne size fits =
    let f = word b link in
    let end = length b in
    let none : o.behind ≡ [] = nothing-left b end o.next o.behind end 0 (omega arith) o.tiles_behind in
    let B : List Piece → Type 0 = λ ps. Tiles b end o.next ps end 0 in
    let next : o.next ≡ 0 = (let t : Tiles b end o.next [] end 0 = subst B none o.tiles_behind in t.1) in
    let l : f < end = free-below b o.upto f o.ahead end o.next o.tiles_ahead next ne in
    let r = reach b o.upto f o.ahead end o.next o.tiles_ahead l (inl next) ne in
    let start_fours : table_end b % 4 ≡ 0 = omega (arith, o.header.pairs) in
    let upto_fours : o.upto % 4 ≡ 0 = tiles-fours b (table_end b) (first_free b) o.before o.upto f
    (link-tiles b link o.upto o.before o.linked) start_fours in
    record {
      beside = record {
        is = record {
          header = o.header;
          before = o.before;
          upto = o.upto;
          ahead = r.pre;
          next = f;
          behind = (Free r.size ∷ r.rest) ++ o.behind;
          linked = o.linked;
          tiles_ahead = r.front;
          tiles_behind = tiles-join b f f (Free r.size ∷ r.rest) o.behind end o.next end 0 r.here o.tiles_behind;
          order = omega arith;
          fours = tiles-fours b o.upto f r.pre f f r.front upto_fours;
          all = (λ i h t. elim (o.all i h t) [
            | inl x ↦ inl x
            | inr x ↦ inr (elim x [
              | inl y ↦ (elim (has-split i r.pre (Free r.size ∷ r.rest) (subst (λ (ps : List Piece). HasChunk i ps) r.is y))
                  [ inl z ↦ inl z | inr z ↦ inr (has-left i (Free r.size ∷ r.rest) o.behind z) ])
              | inr y ↦ inr (has-right i (Free r.size ∷ r.rest) o.behind y)
            ])
          ]);
          total = (let u = ap free_bytes r.is ∙ free_bytes-append r.pre (Free r.size ∷ r.rest) in
              omega (arith, o.total, u, free_bytes-append (Free r.size ∷ r.rest) o.behind));
        };
        used = r.used;
      };
      empty = refl;
      next = refl;
      room = fits;
    }

-- the next free chunk of a heap lies in it
pub record NextInHeap (b : List ℕ) (link : ℕ) : Type 0 where
  pub is : IsOpen b (word b link + 2) (length b) (length b)
  pub above : link < word b link
  pub inside : word b link + 4 ≤ length b

pub heap-next : (b : List ℕ) (link : ℕ) → IsOpen b link (length b) (length b) → word b link ≢ 0 → NextInHeap b link
heap-next b link o ne =
    let end = length b in
    let none : o.behind ≡ [] = nothing-left b end o.next o.behind end 0 (omega arith) o.tiles_behind in
    let B : List Piece → Type 0 = λ ps. Tiles b end o.next ps end 0 in
    let next : o.next ≡ 0 = (let t : Tiles b end o.next [] end 0 = subst B none o.tiles_behind in t.1) in
    let l : word b link < end = free-below b o.upto (word b link) o.ahead end o.next o.tiles_ahead next ne in
    let n = open-next b link end end o ne l in
    record { is = n.is; above = n.above; inside = omega (arith, n.inside, n.four) }
