-- Two lists, place by place.
use Rattle.std.specs.Prelude.{Bool, true, false, ◌&&◌, List, [], ◌∷◌}

-- the lists have one length, and the test holds of each two elements at one place
abbrev pub all2 : {X Y : Type 0} → (X → Y → Bool) → List X → List Y → Bool
all2 test [] [] = true
all2 test (x ∷ xs) (y ∷ ys) = test x y && all2 test xs ys
all2 test [] (y ∷ ys) = false
all2 test (x ∷ xs) [] = false

-- the operation on each two elements at one place
abbrev pub zip2 : {X : Type 0} → (X → X → X) → List X → List X → List X
zip2 f [] ys = []
zip2 f (x ∷ xs) [] = []
zip2 f (x ∷ xs) (y ∷ ys) = f x y ∷ zip2 f xs ys
