-- Runs of chunks, and the first free chunk after a run.
use Rattle.std.proofs.Common.{◌≡◌, ◌≢◌, ℕ, ◌+◌, ◌<◌, ◌≤◌, List, [], ◌∷◌, ◌++◌, length, refl, ap, sym, subst, arith}
use Rattle.geos_terms.specs.Bytes.{word}
use Rattle.geos_terms.specs.Chunks.{cost}
use Rattle.geos_terms.specs.Block.{table_end, first_free}
use Rattle.geos_terms.specs.Heap.{Piece, Used, Free, Tiles, AreUsed, free_bytes, IsHeap}
use Rattle.geos_terms.proofs.Costs.{cost-four}
use Rattle.geos_terms.proofs.Pieces.{tiles-le}

-- chunks say nothing of free chunks
pub used-any : (b : List ℕ) (at f g : ℕ) (ps : List Piece) (end next : ℕ) → AreUsed ps → Tiles b at f ps end next → Tiles b at g ps end g
used-any b at f g [] end next u st = (st.0, refl)
used-any b at f g (Used i n ∷ ps) end next u st = (st.0, st.1, st.2, st.3, used-any b (at + cost n) f g ps end next u st.4)
used-any b at f g (Free m ∷ ps) end next u st = absurd u

pub used-free : (ps : List Piece) → AreUsed ps → free_bytes ps ≡ 0
used-free [] u = refl
used-free (Used i n ∷ ps) u = used-free ps u
used-free (Free m ∷ ps) u = absurd u

pub used-left : (ps qs : List Piece) → AreUsed (ps ++ qs) → AreUsed ps
used-left [] qs u = tt
used-left (Used i n ∷ ps) qs u = used-left ps qs u
used-left (Free m ∷ ps) qs u = absurd u

pub used-right : (ps qs : List Piece) → AreUsed (ps ++ qs) → AreUsed qs
used-right [] qs u = u
used-right (Used i n ∷ ps) qs u = used-right ps qs u
used-right (Free m ∷ ps) qs u = absurd u

pub used-both : (ps qs : List Piece) → AreUsed ps → AreUsed qs → AreUsed (ps ++ qs)
used-both [] qs u v = v
used-both (Used i n ∷ ps) qs u v = used-both ps qs u v
used-both (Free m ∷ ps) qs u v = absurd u

-- pieces that begin at their end are none
pub nothing-left : (b : List ℕ) (at f : ℕ) (ps : List Piece) (end next : ℕ) → end ≤ at → Tiles b at f ps end next → ps ≡ []
nothing-left b at f [] end next h st = refl
nothing-left b at f (Used i n ∷ ps) end next h st = absurd (omega (arith, tiles-le b (at + cost n) f ps end next st.4, cost-four n st.0))
nothing-left b at f (Free m ∷ ps) end next h st = absurd (omega (arith, tiles-le b (at + m) (word b (at + 2)) ps end next st.5, st.0))

-- the first free piece, the chunks before it and the pieces after it
pub record FirstFree (b : List ℕ) (at f : ℕ) (ps : List Piece) (end : ℕ) : Type 0 where
  pub pre : List Piece
  pub s : ℕ
  pub rest : List Piece
  pub is : ps ≡ pre ++ (Free s ∷ rest)
  pub used : AreUsed pre
  pub before : Tiles b at f pre f f
  pub here : Tiles b f f (Free s ∷ rest) end 0

pub first-piece : (b : List ℕ) (at f : ℕ) (ps : List Piece) (end : ℕ) → Tiles b at f ps end 0 → f ≢ 0 → FirstFree b at f ps end
first-piece b at f [] end st ne = absurd (ne st.1)
first-piece b at f (Used i n ∷ ps) end st ne =
    let r = first-piece b (at + cost n) f ps end st.4 ne in
    record {
      pre = Used i n ∷ r.pre;
      s = r.s;
      rest = r.rest;
      is = ap (λ xs. Used i n ∷ xs) r.is;
      used = r.used;
      before =
          (st.0, st.1, st.2, st.3, r.before);
      here = r.here;
    }
first-piece b at f (Free m ∷ ps) end st ne =
    record {
      pre = [];
      s = m;
      rest = ps;
      is = refl;
      used = tt;
      before = (sym st.2, refl);
      here =
          subst (λ (x : ℕ). Tiles b x f (Free m ∷ ps) end 0) (sym st.2) st;
    }

-- and it is within
pub first-within : (b : List ℕ) (at f : ℕ) (ps : List Piece) (end : ℕ) → Tiles b at f ps end 0 → f ≤ end
first-within b at f [] end st = omega (arith, st.1)
first-within b at f (Used i n ∷ ps) end st = first-within b (at + cost n) f ps end st.4
first-within b at f (Free m ∷ ps) end st = omega (arith, tiles-le b (at + m) (word b (at + 2)) ps end 0 st.5, st.2)

-- with no free piece all are chunks
pub none-free : (b : List ℕ) (at : ℕ) (ps : List Piece) (end : ℕ) → 0 < at → Tiles b at 0 ps end 0 → AreUsed ps
none-free b at [] end low st = tt
none-free b at (Used i n ∷ ps) end low st = none-free b (at + cost n) ps end (omega arith) st.4
none-free b at (Free m ∷ ps) end low st = absurd (omega (arith, st.2))

-- the first free chunk lies in the block
pub first-room : (b : List ℕ) (f : ℕ) → IsHeap b → f ≡ first_free b → f ≢ 0 → (table_end b ≤ f) × (4 ≤ word b f) × (f + word b f ≤ length b)
first-room b f heap is ne =
    let r = first-piece b (table_end b) f heap.1.0 (length b)
    (subst (λ (x : ℕ). Tiles b (table_end b) x heap.1.0 (length b) 0) (sym is) heap.1.1.tiles) ne in
    let low = tiles-le b (table_end b) f r.pre f f r.before in
    let high = tiles-le b (f + r.s) (word b (f + 2)) r.rest (length b) 0 r.here.5 in
    let some : 4 ≤ r.s = omega (arith, r.here.0, r.here.1) in
    (low, omega (arith, some, r.here.3), omega (arith, high, r.here.3))
