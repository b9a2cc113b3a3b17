-- Lists of one item, pushed again and again.
use Rattle.std.proofs.Common.{◌≡◌, ℕ, ◌+◌, ◌/◌, ◌%◌, ◌≤◌, List, [], ◌∷◌, ◌++◌, length, get_or, replicate, ap, ◌∙◌, inl, inr, arith}
use Rattle.std.proofs.lemmas.Bool.{cases_lt}
use Rattle.std.proofs.lemmas.List.{get_or-replicate, get_or_past, length-replicate, replicate_more}
use Rattle.std.proofs.lemmas.Nat.Bits.{bit_at-zero}
use Rattle.std.specs.Int.{bit_at}
use Rattle.block_handles.specs.Bits.{bit_of}

pub filled-more : {X : Type 0} (old new : List X) (n : ℕ) (x : X) → old ≡ replicate n x → new ≡ old ++ (x ∷ []) → new ≡ replicate (n + 1) x
filled-more old new n x is more = more ∙ ap (λ xs. xs ++ (x ∷ [])) is ∙ replicate_more n x

get_or-filled : {X : Type 0} (n k : ℕ) (x : X) → get_or (replicate n x) k x ≡ x
get_or-filled n k x = elim (cases_lt k n) [
  | inl within ↦ get_or-replicate n k x x within
  | inr past ↦ get_or_past (replicate n x) k x (omega (arith, length-replicate n x))
]

pub filled : {X : Type 0} (items : List X) (k n : ℕ) (x : X) → items ≡ replicate k x → k ≤ n → n ≤ k → (length items ≡ n)
    × ((i : ℕ) → get_or items i x ≡ x)
filled items k n x is most least = (ap length is ∙ length-replicate k x ∙ omega arith, λ i. ap (λ xs. get_or xs i x) is ∙ get_or-filled k i x)

-- words of 0 are no slot
pub no-slots : (items : List ℕ) (k n : ℕ) → items ≡ replicate k 0 → k ≤ n → n ≤ k → (length items ≡ n) × ((slot : ℕ) → bit_of items slot ≡ 0)
no-slots items k n is most least = let f = filled items k n 0 is most least in
    (f.0, λ slot. ap (λ w. bit_at w (slot % 64)) (f.1 (slot / 64)) ∙ bit_at-zero (slot % 64))
