-- A test of two lists of four elements, by index.
use Rattle.std.proofs.Common.{◌≡◌, Bool, true, false, List, [], ◌∷◌, length, get_or, refl, arith}
use Rattle.std.specs.Prelude.{◌&&◌}
use Rattle.geos_verify.specs.Lists.{all2}

and_true : (b : Bool) → (b && true) ≡ b
and_true true = refl
and_true false = refl

grouped : (a b c d : Bool) → (a && (b && (c && (d && true)))) ≡ (((a && b) && c) && d)
grouped true true true d = and_true d
grouped true true false d = refl
grouped true false c d = refl
grouped false b c d = refl

pub all2_four : {X Y : Type 0} (test : X → Y → Bool) (xs : List X) (ys : List Y) (d : X) (e : Y) → length xs ≡ 4 → length ys ≡ 4
    → all2 test xs ys ≡ (((test (get_or xs 0 d) (get_or ys 0 e) && test (get_or xs 1 d) (get_or ys 1 e)) && test (get_or xs 2 d) (get_or ys 2 e))
    && test (get_or xs 3 d) (get_or ys 3 e))
all2_four test (a ∷ b ∷ c ∷ g ∷ []) (h ∷ i ∷ j ∷ k ∷ []) d e p q = grouped (test a h) (test b i) (test c j) (test g k)
all2_four test (a ∷ b ∷ c ∷ g ∷ []) [] d e p q = absurd (omega arith)
all2_four test (a ∷ b ∷ c ∷ g ∷ []) (h ∷ []) d e p q = absurd (omega arith)
all2_four test (a ∷ b ∷ c ∷ g ∷ []) (h ∷ i ∷ []) d e p q = absurd (omega arith)
all2_four test (a ∷ b ∷ c ∷ g ∷ []) (h ∷ i ∷ j ∷ []) d e p q = absurd (omega arith)
all2_four test (a ∷ b ∷ c ∷ g ∷ []) (h ∷ i ∷ j ∷ k ∷ l ∷ ys) d e p q = absurd (omega arith)
all2_four test [] ys d e p q = absurd (omega arith)
all2_four test (a ∷ []) ys d e p q = absurd (omega arith)
all2_four test (a ∷ b ∷ []) ys d e p q = absurd (omega arith)
all2_four test (a ∷ b ∷ c ∷ []) ys d e p q = absurd (omega arith)
all2_four test (a ∷ b ∷ c ∷ g ∷ l ∷ xs) ys d e p q = absurd (omega arith)
