-- Pairs of slots that are known to hold different blocks.
use Rattle.std.specs.Prelude.{ℕ, Bool, false, ◌&&◌, ◌||◌, not, ◌==◌, List, [], ◌∷◌}

-- the pairs that a row's six pairs stand for, in their order
abbrev pub slot_pairs : List (ℕ × ℕ)
slot_pairs = (0, 1) ∷ (0, 2) ∷ (0, 3) ∷ (1, 2) ∷ (1, 3) ∷ (2, 3) ∷ []

-- the pair is of these two slots
abbrev pub is_pair : ℕ → ℕ → ℕ × ℕ → Bool
is_pair a b pair = (pair.0 == a && pair.1 == b) || (pair.0 == b && pair.1 == a)

-- the pair names the slot
abbrev pub has_slot : ℕ → ℕ × ℕ → Bool
has_slot a pair = pair.0 == a || pair.1 == a

-- each pair with what is known of it, after a change
abbrev pub each_pair : (Bool → ℕ × ℕ → Bool) → List Bool → List (ℕ × ℕ) → List Bool
each_pair change [] pairs = []
each_pair change (known ∷ rest) [] = []
each_pair change (known ∷ rest) (pair ∷ pairs) = change known pair ∷ each_pair change rest pairs

-- nothing is known of the pairs with a slot
abbrev pub without_slot : ℕ → List Bool → List Bool
without_slot a pairs = each_pair (λ known pair. known && not (has_slot a pair)) pairs slot_pairs

-- two slots are known to differ
abbrev pub with_pair : ℕ → ℕ → List Bool → List Bool
with_pair a b pairs = each_pair (λ known pair. known || is_pair a b pair) pairs slot_pairs

-- a slot is known to differ from each other slot that passes a test
abbrev pub with_pairs : ℕ → (ℕ → Bool) → List Bool → List Bool
with_pairs a test pairs = each_pair (λ known pair. known || (pair.0 == a && test pair.1) || (pair.1 == a && test pair.0)) pairs slot_pairs

-- some pair that is known is of these two slots
abbrev pub has_pair : ℕ → ℕ → List Bool → List (ℕ × ℕ) → Bool
has_pair a b [] pairs = false
has_pair a b (known ∷ rest) [] = false
has_pair a b (known ∷ rest) (pair ∷ pairs) = (known && is_pair a b pair) || has_pair a b rest pairs

-- two slots are known to hold different blocks
abbrev pub are_apart : ℕ → ℕ → List Bool → Bool
are_apart a b pairs = has_pair a b pairs slot_pairs
