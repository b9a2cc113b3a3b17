-- Lemmas on pieces that lie side by side.
use Rattle.std.proofs.Common.{◌≡◌, ℕ, ◌+◌, ◌-◌, ◌<◌, ◌≤◌, ◌⊎◌, List, [], ◌∷◌, ◌++◌, refl, ap, sym, ◌∙◌, subst, inl, inr, arith}
use Rattle.geos_terms.specs.Block.{entry}
use Rattle.geos_terms.specs.Bytes.{word}
use Rattle.geos_terms.specs.Chunks.{cost}
use Rattle.geos_terms.specs.Heap.{Piece, Used, Free, Tiles, HasChunk, free_bytes}

-- the end is not before the start
pub tiles-le : (b : List ℕ) (at f : ℕ) (ps : List Piece) (end next : ℕ) → Tiles b at f ps end next → at ≤ end
tiles-le b at f [] end next s = omega arith
tiles-le b at f (Used i n ∷ ps) end next s = omega (arith, tiles-le b (at + cost n) f ps end next s.4)
tiles-le b at f (Free m ∷ ps) end next s = omega (arith, tiles-le b (at + m) (word b (at + 2)) ps end next s.5)

-- a chunk whose first byte is at e lies between two places
pub record LiesWithin (b : List ℕ) (e at end : ℕ) : Type 0 where
  pub n : ℕ
  pub some : 0 < n
  pub from : at + 2 ≤ e
  pub says : word b (e - 2) ≡ n + 2
  pub upto : e + cost n ≤ end + 2

pub lies : (b : List ℕ) (at f : ℕ) (ps : List Piece) (end next i : ℕ) → Tiles b at f ps end next → HasChunk i ps → LiesWithin b (entry b i) at end
lies b at f [] end next i s h = absurd h
lies b at f (Used j n ∷ ps) end next i s (inl e) =
    let le = tiles-le b (at + cost n) f ps end next s.4 in
    let is : at + 2 ≡ entry b i = sym (ap (λ k. entry b k) e ∙ s.2) in
    let back : at + 2 - 2 ≡ at = omega arith in
    subst (λ (x : ℕ). LiesWithin b x at end) is
    (record { n = n; some = s.0; from = omega arith; says = ap (word b) back ∙ s.3; upto = omega (arith, le) })
lies b at f (Used j n ∷ ps) end next i s (inr h) =
    let l = lies b (at + cost n) f ps end next i s.4 h in
    record { n = l.n; some = l.some; from = omega (arith, l.from); says = l.says; upto = l.upto }
lies b at f (Free m ∷ ps) end next i s h =
    let l = lies b (at + m) (word b (at + 2)) ps end next i s.5 h in
    record { n = l.n; some = l.some; from = omega (arith, l.from); says = l.says; upto = l.upto }

-- pieces in two runs
pub tiles-split : (b : List ℕ) (at f : ℕ) (ps qs : List Piece) (end next : ℕ) → Tiles b at f (ps ++ qs) end next
    → (mid : ℕ) × ((g : ℕ) × (Tiles b at f ps mid g × Tiles b mid g qs end next))
tiles-split b at f [] qs end next s = (at, (f, ((refl, refl), s)))
tiles-split b at f (Used i n ∷ ps) qs end next s =
    let r = tiles-split b (at + cost n) f ps qs end next s.4 in
    (r.0, (r.1.0, ((s.0, s.1, s.2, s.3, r.1.1.0), r.1.1.1)))
tiles-split b at f (Free m ∷ ps) qs end next s =
    let r = tiles-split b (at + m) (word b (at + 2)) ps qs end next s.5 in
    (r.0, (r.1.0, ((s.0, s.1, s.2, s.3, s.4, r.1.1.0), r.1.1.1)))

pub tiles-join : (b : List ℕ) (at f : ℕ) (ps qs : List Piece) (mid g end next : ℕ) → Tiles b at f ps mid g
    → Tiles b mid g qs end next → Tiles b at f (ps ++ qs) end next
tiles-join b at f [] qs mid g end next s t = rw (s.0, s.1) t
tiles-join b at f (Used i n ∷ ps) qs mid g end next s t = (s.0, s.1, s.2, s.3, tiles-join b (at + cost n) f ps qs mid g end next s.4 t)
tiles-join b at f (Free m ∷ ps) qs mid g end next s t = (s.0, s.1, s.2, s.3, s.4, tiles-join b (at + m) (word b (at + 2)) ps qs mid g end next s.5 t)

pub has-split : (i : ℕ) (ps qs : List Piece) → HasChunk i (ps ++ qs) → HasChunk i ps ⊎ HasChunk i qs
has-split i [] qs h = inr h
has-split i (Used j n ∷ ps) qs (inl e) = inl (inl e)
has-split i (Used j n ∷ ps) qs (inr h) = elim (has-split i ps qs h) [ inl a ↦ inl (inr a) | inr a ↦ inr a ]
has-split i (Free m ∷ ps) qs h = has-split i ps qs h

pub has-left : (i : ℕ) (ps qs : List Piece) → HasChunk i ps → HasChunk i (ps ++ qs)
has-left i [] qs h = absurd h
has-left i (Used j n ∷ ps) qs (inl e) = inl e
has-left i (Used j n ∷ ps) qs (inr h) = inr (has-left i ps qs h)
has-left i (Free m ∷ ps) qs h = has-left i ps qs h

pub has-right : (i : ℕ) (ps qs : List Piece) → HasChunk i qs → HasChunk i (ps ++ qs)
has-right i [] qs h = h
has-right i (Used j n ∷ ps) qs h = inr (has-right i ps qs h)
has-right i (Free m ∷ ps) qs h = has-right i ps qs h

pub free_bytes-append : (ps qs : List Piece) → free_bytes (ps ++ qs) ≡ free_bytes ps + free_bytes qs
free_bytes-append [] qs = omega arith
free_bytes-append (Used i n ∷ ps) qs = free_bytes-append ps qs
free_bytes-append (Free m ∷ ps) qs = omega (arith, free_bytes-append ps qs)
