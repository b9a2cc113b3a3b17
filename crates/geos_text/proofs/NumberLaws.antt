-- Numbers in decimal digits, read from the front.
use Rattle.std.proofs.Common.{◌≡◌, ◌<◌, ◌≤◌, ℕ, ◌+◌, ◌*◌, ◌-◌, Bool, true, false, List, [], ◌∷◌, Result, Err, refl, ap, sym, arith}
use Rattle.std.specs.Prelude.{nat_le, if◌then◌else◌}
use Rattle.std.specs.List.{list_all}
use Rattle.std.specs.Char.{is_ascii_digit, digit_value}
use Rattle.std.specs.Str.Parse.{digits_value_after}
use Rattle.geos_text.specs.declared.numbers.NumberError.{NumberError}
use Rattle.geos_text.specs.declared.numbers.NumberError.TheVariants.{Malformed, TooLarge}
use Rattle.geos_text.specs.Numbers.{if_within}

-- the number up to the greatest one, if n was read before the digits
abbrev pub number_after : ℕ → ℕ → List ℕ → Result ℕ NumberError
number_after greatest n digits =
    if list_all is_ascii_digit digits then if_within greatest (digits_value_after 10 n digits) else Err Malformed

-- further digits never make a number less
value-grows : (n : ℕ) (digits : List ℕ) → n ≤ digits_value_after 10 n digits
value-grows n [] = omega arith
value-grows n (d ∷ digits) = omega (arith, value-grows (n * 10 + digit_value d) digits)

digit_says : (b : ℕ) → is_ascii_digit b ≡ true → digit_value b ≡ b - 48
digit_says b e = grind arith

pub number_after-digit : (greatest n b : ℕ) (digits : List ℕ) → is_ascii_digit b ≡ true
    → number_after greatest n (b ∷ digits) ≡ number_after greatest (n * 10 + (b - 48)) digits
number_after-digit greatest n b digits e = rw (e, digit_says b e) refl

pub number_after-other : (greatest n b : ℕ) (digits : List ℕ) → is_ascii_digit b ≡ false → number_after greatest n (b ∷ digits) ≡ Err Malformed
number_after-other greatest n b digits e = rw e refl

within-over : (greatest n : ℕ) (digits : List ℕ) → greatest < n → if_within greatest (digits_value_after 10 n digits) ≡ Err TooLarge
within-over greatest n digits over = grind (arith, value-grows n digits)

-- numbers above the greatest one are all alike
number_after-over : (greatest n m : ℕ) (digits : List ℕ) → greatest < n → greatest < m
    → number_after greatest n digits ≡ number_after greatest m digits
number_after-over greatest n m digits over past =
    rw (within-over greatest n digits over, within-over greatest m digits past) refl

cut-by : (greatest n cut : ℕ) (digits : List ℕ) (within : Bool) → nat_le n greatest ≡ within → (n ≤ greatest → cut ≡ n)
    → (greatest < n → greatest < cut)
    → number_after greatest n digits ≡ number_after greatest cut digits
cut-by greatest n cut digits true e same past =
    let le : n ≤ greatest = grind arith in
    ap (λ k. number_after greatest k digits) (sym (same le))
cut-by greatest n cut digits false e same past =
    let lt : greatest < n = grind arith in
    number_after-over greatest n cut digits lt (past lt)

-- a number above the greatest one may be cut to another such
pub number_after-cut : (greatest n cut : ℕ) (digits : List ℕ) → (n ≤ greatest → cut ≡ n) → (greatest < n → greatest < cut)
    → number_after greatest n digits ≡ number_after greatest cut digits
number_after-cut greatest n cut digits same past = cut-by greatest n cut digits (nat_le n greatest) refl same past
