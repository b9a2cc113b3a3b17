-- Lists of as many elements as a row has, by index.
use Rattle.std.proofs.Common.{◌≡◌, ℕ, zero, suc, ◌+◌, List, [], ◌∷◌, length, get_or, drop, ap, ◌∙◌, arith}
use Rattle.geos_explain.proofs.Below.{drop_of_length-le, drop-cons, zip2}

-- so many elements of a list from a place on
abbrev pub elements : {X : Type 0} → List X → X → ℕ → ℕ → List X
elements xs d i zero = []
elements xs d i (suc n) = get_or xs i d ∷ elements xs d (suc i) n

elements-from : {X : Type 0} (xs : List X) (d : X) (i n : ℕ) → length xs ≡ i + n → drop i xs ≡ elements xs d i n
elements-from xs d i zero e = drop_of_length-le xs (omega arith)
elements-from xs d i (suc n) e = drop-cons xs i d (omega arith) ∙ ap (λ ys. get_or xs i d ∷ ys) (elements-from xs d (suc i) n (omega arith))

-- an operation at each place of two lists of so many
pub zip2-elements : {X : Type 0} (f : X → X → X) (d : X) (n : ℕ) (xs ys : List X) → length xs ≡ n → length ys ≡ n
    → zip2 f xs ys ≡ zip2 f (elements xs d 0 n) (elements ys d 0 n)
zip2-elements f d n xs ys p q =
    ap (λ zs. zip2 f zs ys) (elements-from xs d 0 n (omega arith)) ∙ ap (zip2 f (elements xs d 0 n)) (elements-from ys d 0 n (omega arith))
