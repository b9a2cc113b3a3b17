-- The strongest rows that fit others, and constants of instructions.
use Rattle.std.proofs.Common.{◌≡◌, ℕ, zero, suc, Bool, true, false, List, [], ◌∷◌, length, refl, sym, ap, ◌∙◌, arith}
use Rattle.std.specs.Prelude.{nat_le, replicate}
use Rattle.std.proofs.lemmas.Bool.{le-leb}
use Rattle.std.proofs.lemmas.Option.{same_Some}
use Rattle.geos_image.specs.declared.point.Point.{Point}
use Rattle.geos_image.specs.Parts.{Parts}
use Rattle.geos_verify.specs.Lists.{all2}
use Rattle.geos_verify.specs.Rows.{pair_fits}
use Rattle.geos_verify.proofs.Pairwise.{both}
use Rattle.geos_rows.specs.Widening.{IsConstantAt}

-- no bound is below 0
pub zeros-fit : (n : ℕ) (xs : List ℕ) → length xs ≡ n → all2 nat_le (replicate n 0) xs ≡ true
zeros-fit zero [] long = refl
zeros-fit (suc n) (x ∷ xs) long =
    both (nat_le 0 x) (all2 nat_le (replicate n 0) xs) (le-leb 0 x (omega arith)) (zeros-fit n xs (omega (arith, long)))
zeros-fit zero (x ∷ xs) long = absurd (omega (arith, long))
zeros-fit (suc n) [] long = absurd (omega (arith, long))

wanted : (b : Bool) → pair_fits true b ≡ true
wanted true = refl
wanted false = refl

-- all pairs are known
pub pairs-fit : (n : ℕ) (xs : List Bool) → length xs ≡ n → all2 pair_fits (replicate n true) xs ≡ true
pairs-fit zero [] long = refl
pairs-fit (suc n) (x ∷ xs) long =
    both (pair_fits true x) (all2 pair_fits (replicate n true) xs) (wanted x) (pairs-fit n xs (omega (arith, long)))
pairs-fit zero (x ∷ xs) long = absurd (omega (arith, long))
pairs-fit (suc n) [] long = absurd (omega (arith, long))

-- the instruction at a pc has one constant at most
pub one-constant : (image : Parts) (pc m n : ℕ) → IsConstantAt image pc m → IsConstantAt image pc n → m ≡ n
one-constant image pc m n M N =
    let same = same_Some M.0 N.0 (sym M.1 ∙ N.1) in
    sym M.3 ∙ ap (λ (p : Point). p.instr.imm) same ∙ N.3
