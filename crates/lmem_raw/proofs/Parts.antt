-- Laws of `part` and `with_part`.
use Rattle.std.proofs.Common.{◌≡◌, ℕ, zero, suc, ◌+◌, ◌-◌, ◌≤◌, List, [], ◌∷◌, ◌++◌, length, take, drop, refl, ap, arith, append_assoc, length-take, length-drop}
use Rattle.std.specs.List.{copy_within}
use Rattle.std.proofs.Math.Seq.{take-append_seam}
use Rattle.lmem_raw.specs.Bytes.{part, with_part}

pub length-with_part : (bs : List ℕ) (at : ℕ) (ws : List ℕ) → length (with_part bs at ws) ≡ length bs
length-with_part [] at ws = refl
length-with_part (b ∷ bs) zero [] = refl
length-with_part (b ∷ bs) zero (w ∷ ws) = ap suc (length-with_part bs zero ws)
length-with_part (b ∷ bs) (suc at) ws = ap suc (length-with_part bs at ws)

-- what was written is there
pub part-same : (bs : List ℕ) (at : ℕ) (ws : List ℕ) → at + length ws ≤ length bs → part (with_part bs at ws) at (length ws) ≡ ws
part-same [] at [] h = grind (arith)
part-same [] at (w ∷ ws) h = absurd (omega arith)
part-same (b ∷ bs) zero [] h = refl
part-same (b ∷ bs) zero (w ∷ ws) h = ap (λ xs. w ∷ xs) (part-same bs zero ws (omega arith))
part-same (b ∷ bs) (suc at) ws h = part-same bs at ws (omega arith)

-- a part before it is as it was
pub part-before : (bs : List ℕ) (at : ℕ) (ws : List ℕ) (from n : ℕ) → from + n ≤ at → part (with_part bs at ws) from n ≡ part bs from n
part-before [] at ws from n h = refl
part-before (b ∷ bs) zero [] from n h = refl
part-before (b ∷ bs) zero (w ∷ ws) zero zero h = refl
part-before (b ∷ bs) zero (w ∷ ws) zero (suc n) h = absurd (omega arith)
part-before (b ∷ bs) zero (w ∷ ws) (suc from) n h = absurd (omega arith)
part-before (b ∷ bs) (suc at) ws zero zero h = refl
part-before (b ∷ bs) (suc at) ws zero (suc n) h = ap (λ xs. b ∷ xs) (part-before bs at ws zero n (omega arith))
part-before (b ∷ bs) (suc at) ws (suc from) n h = part-before bs at ws from n (omega arith)

-- and a part after it
pub part-behind : (bs : List ℕ) (at : ℕ) (ws : List ℕ) (from n : ℕ) → at + length ws ≤ from → part (with_part bs at ws) from n ≡ part bs from n
part-behind [] at ws from n h = refl
part-behind (b ∷ bs) zero [] from n h = refl
part-behind (b ∷ bs) zero (w ∷ ws) zero n h = absurd (omega arith)
part-behind (b ∷ bs) zero (w ∷ ws) (suc from) n h = part-behind bs zero ws from n (omega arith)
part-behind (b ∷ bs) (suc at) ws zero n h = absurd (omega arith)
part-behind (b ∷ bs) (suc at) ws (suc from) n h = part-behind bs at ws from n (omega arith)

-- a whole list written over
pub with_whole : (bs ws : List ℕ) → length ws ≡ length bs → with_part bs zero ws ≡ ws
with_whole [] [] h = refl
with_whole [] (w ∷ ws) h = absurd (omega arith)
with_whole (b ∷ bs) [] h = absurd (omega arith)
with_whole (b ∷ bs) (w ∷ ws) h = ap (λ xs. w ∷ xs) (with_whole bs ws (omega arith))

-- as std writes it
pub with_part-refill : (bs : List ℕ) (at : ℕ) (ws : List ℕ) → let mid = take at bs ++ (ws ++ drop (length ws) (drop at bs)) in
    take (length bs) (mid ++ drop (length mid) bs) ≡ with_part bs at ws
with_part-refill [] at ws = refl
with_part-refill (b ∷ bs) zero [] = take-append_seam (b ∷ bs) (drop (length (b ∷ bs)) (b ∷ bs))
with_part-refill (b ∷ bs) zero (w ∷ ws) = ap (λ xs. w ∷ xs) (with_part-refill bs zero ws)
with_part-refill (b ∷ bs) (suc at) ws = ap (λ xs. b ∷ xs) (with_part-refill bs at ws)

-- in three parts
pub with_part-split : (bs : List ℕ) (at m : ℕ) (ws : List ℕ) → m ≡ at + length ws → m ≤ length bs
    → take at bs ++ (ws ++ drop m bs) ≡ with_part bs at ws
with_part-split [] zero zero [] e h = refl
with_part-split [] zero zero (w ∷ ws) e h = absurd (omega arith)
with_part-split [] (suc at) zero ws e h = absurd (omega arith)
with_part-split [] at (suc m) ws e h = absurd (omega arith)
with_part-split (b ∷ bs) zero zero [] e h = refl
with_part-split (b ∷ bs) zero (suc m) [] e h = absurd (omega arith)
with_part-split (b ∷ bs) zero zero (w ∷ ws) e h = absurd (omega arith)
with_part-split (b ∷ bs) zero (suc m) (w ∷ ws) e h = ap (λ xs. w ∷ xs) (with_part-split bs zero m ws (omega arith) (omega arith))
with_part-split (b ∷ bs) (suc at) zero ws e h = absurd (omega arith)
with_part-split (b ∷ bs) (suc at) (suc m) ws e h = ap (λ xs. b ∷ xs) (with_part-split bs at m ws (omega arith) (omega arith))

-- as `copy_within` leaves it
pub copied : (bs : List ℕ) (from n to : ℕ) → from + n ≤ length bs → to + n ≤ length bs
    → copy_within bs from (from + n) to ≡ with_part bs to (part bs from n)
copied bs from n to h h' =
    let k : from + n - from ≡ n = omega arith in
    let long : to + n ≡ to + length (part bs from n) = omega (arith, length-take n (drop from bs), length-drop from bs) in
    rw (k, append_assoc) (with_part-split bs to (to + n) (part bs from n) long h')
