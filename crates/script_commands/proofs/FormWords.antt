-- Words without the zeros at their end.
use Rattle.std.proofs.Common.{◌≡◌, ◌≢◌, ◌∙◌, ◌<◌, ℕ, zero, suc, ◌-◌, false, List, refl, sym, ap, arith}
use Rattle.std.specs.Prelude.{◌==◌, slice_index}
use Rattle.std.proofs.lemmas.Bool.{ne_eqb}
use Rattle.script_commands.specs.Forms.{words_said}

-- the last of them is 0
pub said-zero : (words : List ℕ) (n : ℕ) → 0 < n → slice_index words (n - 1) ≡ 0 → words_said words n ≡ words_said words (n - 1)
said-zero words zero some e = absurd (omega (arith, some))
said-zero words (suc n) some e =
    let same : suc n - 1 ≡ n = omega arith in
    let last : slice_index words n ≡ 0 = ap (slice_index words) (sym same) ∙ e in
    rw (same, last) refl

-- or it is not
pub said-all : (words : List ℕ) (n : ℕ) → 0 < n → slice_index words (n - 1) ≢ 0 → words_said words n ≡ n
said-all words zero some e = absurd (omega (arith, some))
said-all words (suc n) some e =
    let same : suc n - 1 ≡ n = omega arith in
    let last : (slice_index words n == 0) ≡ false = ne_eqb (slice_index words n) 0 (λ is. e (ap (slice_index words) same ∙ is)) in
    rw last refl
