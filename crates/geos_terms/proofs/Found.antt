-- The piece of an entry, and the pieces before and after it.
use Rattle.std.proofs.Common.{◌≡◌, ℕ, ◌+◌, ◌-◌, ◌<◌, ◌≤◌, List, [], ◌∷◌, ◌++◌, refl, ap, sym, ◌∙◌, subst, inl, inr, arith}
use Rattle.geos_terms.specs.Bytes.{word}
use Rattle.geos_terms.specs.Chunks.{cost}
use Rattle.geos_terms.specs.Block.{entry}
use Rattle.geos_terms.specs.Heap.{Piece, Used, Free, Tiles, HasChunk}

-- the piece of an entry, the pieces before it and the pieces after it
pub record Found (b : List ℕ) (at f : ℕ) (ps : List Piece) (end next i : ℕ) : Type 0 where
  pub pre : List Piece
  pub n : ℕ
  pub post : List Piece
  pub g : ℕ
  pub is : ps ≡ pre ++ (Used i n ∷ post)
  pub some : 0 < n
  pub low : at + 2 ≤ entry b i
  pub before : Tiles b at f pre (entry b i - 2) g
  pub size : word b (entry b i - 2) ≡ n + 2
  pub behind : Tiles b (entry b i - 2 + cost n) g post end next

pub find : (b : List ℕ) (at f : ℕ) (ps : List Piece) (end next i : ℕ) → Tiles b at f ps end next → HasChunk i ps → Found b at f ps end next i
find b at f [] end next i s h = absurd h
find b at f (Used j n ∷ ps) end next i s (inl e) =
    let is : entry b i ≡ at + 2 = ap (λ x. entry b x) e ∙ s.2 in
    let back : at ≡ entry b i - 2 = omega (arith, is) in
    record {
      pre = [];
      n = n;
      post = ps;
      g = f;
      is = ap (λ x. Used x n ∷ ps) (sym e);
      some = s.0;
      low =
          omega (arith, is);
      before = (back, refl);
      size = ap (word b) (sym back)
          ∙ s.3;
      behind = subst (λ (x : ℕ). Tiles b (x + cost n) f ps end next) back s.4;
    }
find b at f (Used j n ∷ ps) end next i s (inr h) =
    let r = find b (at + cost n) f ps end next i s.4 h in
    record {
      pre = Used j n ∷ r.pre;
      n = r.n;
      post = r.post;
      g = r.g;
      is = ap (λ xs. Used j n ∷ xs) r.is;
      some =
          r.some;
      low = omega arith;
      before = (s.0, s.1, s.2, s.3, r.before);
      size = r.size;
      behind = r.behind;
    }
find b at f (Free m ∷ ps) end next i s h =
    let r = find b (at + m) (word b (at + 2)) ps end next i s.5 h in
    record {
      pre = Free m ∷ r.pre;
      n = r.n;
      post = r.post;
      g = r.g;
      is = ap (λ xs. Free m ∷ xs) r.is;
      some =
          r.some;
      low = omega arith;
      before = (s.0, s.1, s.2, s.3, s.4, r.before);
      size = r.size;
      behind = r.behind;
    }
