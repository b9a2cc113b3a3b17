-- Lists of eight numbers, by index.
use Rattle.std.proofs.Common.{◌≡◌, ℕ, true, List, [], ◌∷◌, length, get_or, refl, ap, ◌∙◌, arith}
use Rattle.std.specs.Prelude.{max, nat_le}
use Rattle.geos_verify.specs.Lists.{all2, zip2}
use Rattle.geos_rows.specs.Weakest.{any_words}

eight : (xs : List ℕ) → length xs ≡ 8
    → xs ≡ get_or xs 0 0 ∷ get_or xs 1 0 ∷ get_or xs 2 0 ∷ get_or xs 3 0 ∷ get_or xs 4 0 ∷ get_or xs 5 0 ∷ get_or xs 6 0 ∷ get_or xs 7 0 ∷ []
eight (a ∷ b ∷ c ∷ d ∷ e ∷ f ∷ g ∷ h ∷ []) p = refl
eight [] p = absurd (omega arith)
eight (a ∷ []) p = absurd (omega arith)
eight (a ∷ b ∷ []) p = absurd (omega arith)
eight (a ∷ b ∷ c ∷ []) p = absurd (omega arith)
eight (a ∷ b ∷ c ∷ d ∷ []) p = absurd (omega arith)
eight (a ∷ b ∷ c ∷ d ∷ e ∷ []) p = absurd (omega arith)
eight (a ∷ b ∷ c ∷ d ∷ e ∷ f ∷ []) p = absurd (omega arith)
eight (a ∷ b ∷ c ∷ d ∷ e ∷ f ∷ g ∷ []) p = absurd (omega arith)
eight (a ∷ b ∷ c ∷ d ∷ e ∷ f ∷ g ∷ h ∷ i ∷ xs) p = absurd (omega arith)

pub max_eight : (xs ys : List ℕ) → length xs ≡ 8 → length ys ≡ 8
    → zip2 max xs ys ≡ max (get_or xs 0 0) (get_or ys 0 0) ∷ max (get_or xs 1 0) (get_or ys 1 0) ∷ max (get_or xs 2 0)
    (get_or ys 2 0) ∷ max (get_or xs 3 0) (get_or ys 3 0)
    ∷ max (get_or xs 4 0) (get_or ys 4 0) ∷ max (get_or xs 5 0) (get_or ys 5 0) ∷ max (get_or xs 6 0) (get_or ys 6 0) ∷ max
    (get_or xs 7 0) (get_or ys 7 0) ∷ []
max_eight xs ys p q = ap (λ zs. zip2 max zs ys) (eight xs p)
    ∙ ap (zip2 max (get_or xs 0 0 ∷ get_or xs 1 0 ∷ get_or xs 2 0 ∷ get_or xs 3 0 ∷ get_or xs 4 0 ∷ get_or xs 5 0
    ∷ get_or xs 6 0 ∷ get_or xs 7 0 ∷ [])) (eight ys q)

-- eight numbers are at most as many others
pub eight-words : (xs : List ℕ) → length xs ≡ 8 → nat_le (get_or xs 0 0) 65535 ≡ true → nat_le (get_or xs 1 0) 65535 ≡ true
    → nat_le (get_or xs 2 0) 65535 ≡ true → nat_le (get_or xs 3 0) 65535 ≡ true → nat_le (get_or xs 4 0) 65535 ≡ true
    → nat_le (get_or xs 5 0) 65535 ≡ true → nat_le (get_or xs 6 0) 65535 ≡ true → nat_le (get_or xs 7 0) 65535 ≡ true
    → all2 nat_le xs any_words ≡ true
eight-words xs long a b c d e f g h = ap (λ (l : List ℕ). all2 nat_le l any_words) (eight xs long) ∙ rw (a, b, c, d, e, f, g, h) refl
