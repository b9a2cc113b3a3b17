-- A slice that is read into from an offset on.
use Rattle.std.proofs.Common.{◌≡◌, ℕ, ◌+◌, ◌-◌, ◌≤◌, List, [], ◌++◌, length, take, drop, refl, ap, ◌∙◌, arith, append_assoc, length-take, length-drop}
use Rattle.std.proofs.lemmas.List.{append-nil, drop_all, take_all}
use Rattle.std.proofs.lemmas.Slice.{put_mid-paste}
use borrow.Rule.Slice.PartMut.{put_mid}
use Rattle.lmem_raw.specs.Bytes.{part}

-- the bytes from an offset to the end of a slice are lent
pub lent : (at k : ℕ) (bs : List ℕ) → k ≡ length bs - at → length (take k (drop at bs)) ≡ k
lent at k bs is = length-take k (drop at bs) ∙ omega (arith, is, length-drop at bs)

-- a slice of which the bytes from an offset on were read from an image
pub read_from : (at k from : ℕ) (bs ys image : List ℕ) → k ≡ length bs - at → at ≤ length bs → length ys ≡ length (take k (drop at bs))
    → ys ≡ part image from (length (take k (drop at bs))) →
    put_mid at k bs ys ≡ take at bs ++ part image from (length bs - at)
read_from at k from bs ys image is fits long read =
    let size = lent at k bs is in
    put_mid-paste at k bs ys ys (length ys) refl (long ∙ size) refl
    ∙ ap (λ xs. take at bs ++ xs ++ drop (at + length ys) bs) (take_all (length ys) ys (omega arith))
    ∙ ap (λ xs. take at bs ++ ys ++ xs) (drop_all (at + length ys) bs (omega (arith, long, size, is)))
    ∙ append_assoc (take at bs) ys []
    ∙ ap (λ xs. take at bs ++ xs) (append-nil ys ∙ read ∙ ap (part image from) (size ∙ is))
