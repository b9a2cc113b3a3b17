-- A write leaves the bytes outside its range.
use Rattle.std.proofs.Common.{◌≡◌, ℕ, zero, suc, ◌+◌, ◌-◌, ◌≤◌, List, [], ◌∷◌, length, take, drop, refl, ap, sym, subst, ◌∙◌, arith}
use Rattle.std.proofs.Math.Seq.{drop-drop}
use Rattle.vm_file.specs.Device.{Touched, AfterWrite}
use Rattle.lmem_raw.specs.Bytes.{with_part}
use Rattle.lmem_raw.proofs.Parts.{length-with_part}

pub touched_not : (at n : ℕ) (bs : List ℕ) → Touched at n bs bs
touched_not at n bs = record { long = refl; before = refl; behind = refl }

before_part : (bs : List ℕ) (at : ℕ) (ws : List ℕ) → take at (with_part bs at ws) ≡ take at bs
before_part [] at ws = refl
before_part (b ∷ bs) zero ws = refl
before_part (b ∷ bs) (suc at) ws = ap (λ xs. b ∷ xs) (before_part bs at ws)

behind_part : (bs : List ℕ) (at m : ℕ) (ws : List ℕ) → m ≡ at + length ws → drop m (with_part bs at ws) ≡ drop m bs
behind_part [] at m ws e = refl
behind_part (b ∷ bs) zero m [] e = refl
behind_part (b ∷ bs) zero zero (w ∷ ws) e = absurd (omega arith)
behind_part (b ∷ bs) zero (suc m) (w ∷ ws) e = behind_part bs zero m ws (omega arith)
behind_part (b ∷ bs) (suc at) zero ws e = absurd (omega arith)
behind_part (b ∷ bs) (suc at) (suc m) ws e = behind_part bs at m ws (omega arith)

pub touched_part : (at : ℕ) (bs ws : List ℕ) → Touched at (length ws) bs (with_part bs at ws)
touched_part at bs ws = record {
  long = length-with_part bs at ws;
  before = before_part bs at ws;
  behind =
      behind_part bs at (at + length ws) ws refl;
}

-- a range within another
pub touched_more : (at n m : ℕ) (old new : List ℕ) → n ≤ m → Touched at n old new → Touched at m old new
touched_more at n m old new le t =
    let k : at + n + (m - n) ≡ at + m = omega arith in
    record {
      long = t.long;
      before = t.before;
      behind = subst (λ j. drop j new ≡ drop j old) k
          (sym (drop-drop (m - n) (at + n) new) ∙ ap (drop (m - n)) t.behind ∙ drop-drop (m - n) (at + n) old);
    }

pub after_more : (at n m : ℕ) (images : List ℕ → Type 0) (c : List ℕ) → n ≤ m → AfterWrite at n images c → AfterWrite at m images c
after_more at n m images c le after = (after.0, after.1, touched_more at n m after.0 c le after.2)
