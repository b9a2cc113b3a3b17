-- Relations on lists, element by element.
use Rattle.std.specs.Prelude.{List, [], ◌∷◌}

-- the property holds for each element
abbrev pub Each : {X : Type 0} → (X → Type 0) → List X → Type 0
Each P [] = Unit {0}
Each P (x ∷ xs) = P x × Each P xs

-- the lists have the same length, and the relation holds for the two elements at each index
abbrev pub Each2 : {X Y : Type 0} → (X → Y → Type 0) → List X → List Y → Type 0
Each2 R [] [] = Unit {0}
Each2 R (x ∷ xs) (y ∷ ys) = R x y × Each2 R xs ys
Each2 R [] (y ∷ ys) = ⊥
Each2 R (x ∷ xs) [] = ⊥
