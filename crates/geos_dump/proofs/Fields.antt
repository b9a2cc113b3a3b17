-- Numbers that were read from an image.
use Rattle.std.proofs.Common.{◌≡◌, ◌∙◌, ℕ, ◌+◌, ◌*◌, ◌<◌, List, get_or, ap, arith, drop}
use Rattle.std.proofs.lemmas.List.{get_or-drop, get_or-take}
use Rattle.lmem_raw.specs.Bytes.{part}
use Rattle.geos_terms.specs.Bytes.{word}

part-at : (bytes : List ℕ) (at n k : ℕ) → k < n → get_or (part bytes at n) k 0 ≡ get_or bytes (at + k) 0
part-at bytes at n k lt = get_or-take n (drop at bytes) k 0 lt ∙ get_or-drop at bytes k 0

-- 32 bits, the low byte first
pub long-read : (image into : List ℕ) (n : ℕ) → into ≡ part image 8 4
    → n ≡ get_or into 0 0 + get_or into 1 0 * 256 + get_or into 2 0 * 65536 + get_or into 3 0 * 16777216 → n ≡ word image 8 + 65536 * word image 10
unfolding word
long-read image into n is read =
    let at : (k : ℕ) → k < 4 → get_or into k 0 ≡ get_or image (8 + k) 0 = λ k lt. ap (λ bytes. get_or bytes k 0) is ∙ part-at image 8 4 k lt in
    omega (arith, read, at 0 (omega arith), at 1 (omega arith), at 2 (omega arith), at 3 (omega arith))
