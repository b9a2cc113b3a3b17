-- Laws of parts, beside those of the region.
use Rattle.std.proofs.Common.{◌≡◌, ℕ, ◌+◌, ◌≤◌, List, ◌++◌, length, take, drop, ap, ◌∙◌, arith}
use Rattle.std.proofs.Math.Seq.{drop-drop}
use Rattle.lmem_raw.specs.Bytes.{with_part}
use Rattle.lmem_raw.proofs.Parts.{with_part-split}

-- as a write to a range leaves it
pub put_over : (bs : List ℕ) (at k n : ℕ) (zs : List ℕ) → at + n ≤ length bs → k ≡ n → length zs ≡ n
    → take at bs ++ (zs ++ drop k (drop at bs)) ≡ with_part bs at zs
put_over bs at k n zs h e l = ap (λ m. take at bs ++ (zs ++ drop m (drop at bs))) e ∙ ap (λ xs. take at bs ++ (zs ++ xs)) (drop-drop n at bs)
    ∙ with_part-split bs at (at + n) zs (omega arith) h
