-- Laws of `cost`.
use Rattle.std.proofs.Common.{◌≡◌, ℕ, zero, suc, ◌+◌, ◌*◌, ◌/◌, ◌%◌, ◌<◌, ◌≤◌, refl, arith}
use Rattle.geos_terms.specs.Chunks.{cost}

pub cost_is : (n : ℕ) → 0 < n → cost n ≡ (n + 2 + 3) / 4 * 4
unfolding cost
cost_is zero h = absurd (omega arith)
cost_is (suc n) h = refl

pub cost-least : (n : ℕ) → 0 < n → n + 2 ≤ cost n
cost-least n h = omega (arith, cost_is n h)

pub cost-most : (n : ℕ) → cost n ≤ n + 5
unfolding cost
cost-most zero = omega arith
cost-most (suc n) = omega arith

pub cost-fours : (n : ℕ) → cost n % 4 ≡ 0
unfolding cost
cost-fours zero = refl
cost-fours (suc n) = omega arith

pub cost-four : (n : ℕ) → 0 < n → 4 ≤ cost n
cost-four n h = omega (arith, cost_is n h)

pub cost-over : (n : ℕ) → n ≤ cost n
cost-over zero = omega arith
cost-over (suc n) = let e = cost-least (suc n) (omega arith) in omega arith

pub cost-mono : (m n : ℕ) → m ≤ n → cost m ≤ cost n
unfolding cost
cost-mono zero n h = omega arith
cost-mono (suc m) zero h = absurd (omega arith)
cost-mono (suc m) (suc n) h = omega arith
