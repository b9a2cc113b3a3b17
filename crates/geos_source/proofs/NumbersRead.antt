-- Registers and numbers that are read are below their limits.
use Rattle.std.proofs.Common.{◌≡◌, ◌<◌, ◌≤◌, ℕ, ◌+◌, ◌-◌, ◌==◌, ◌&&◌, Bool, true, false, cond, nat_le, nat_lt, List, length, slice_index, Some, Result, Ok, Err, arith}
use Rattle.std.specs.Str.Parse.{digits_value}
use Rattle.std.proofs.lemmas.Bool.{and_parts, ltb-true, leb-true}
use Rattle.geos_text.specs.declared.numbers.NumberError.{NumberError}
use Rattle.geos_text.specs.declared.numbers.NumberError.TheVariants.{Malformed, TooLarge}
use Rattle.geos_text.specs.Numbers.{is_number, if_within, number_up_to}
use Rattle.geos_text.specs.Registers.{register_of}
use Rattle.geos_source.specs.Operands.{or_why, numbered}
use Rattle.geos_source.proofs.ReadLaws.{some_if, ok_if}

-- a register is one of so many
pub register_of-below : (letter count : ℕ) (word : List ℕ) (k : ℕ) → register_of letter count word ≡ Some k → k < count
register_of-below letter count word k e =
    let digit = slice_index word 1 in
    let front = length word == 2 && slice_index word 0 == letter in
    let from = nat_le 48 digit in
    let below = nat_lt digit (48 + count) in
    let read = some_if (front && from && below) (digit - 48) k e in
    let parts = and_parts (front && from) below read.0 in
    let first = and_parts front from parts.0 in
    let same : digit - 48 ≡ k = read.1 in
    omega (arith, ltb-true digit (48 + count) parts.1, leb-true 48 digit first.1, same)

or_why-ok : (read : Result ℕ NumberError) (n : ℕ) → or_why read ≡ Ok n → read ≡ Ok n
or_why-ok (Ok m) n e = cc
or_why-ok (Err Malformed) n e = absurd cc
or_why-ok (Err TooLarge) n e = absurd cc

if_within-below : (greatest number n : ℕ) → if_within greatest number ≡ Ok n → n ≤ greatest
if_within-below greatest number n e =
    let read = ok_if (nat_le number greatest) number n TooLarge e in
    let same : number ≡ n = read.1 in
    omega (arith, leb-true number greatest read.0, same)

number_under : (b : Bool) (greatest number n : ℕ) → cond b (if_within greatest number) (Err Malformed) ≡ Ok n → n ≤ greatest
number_under true greatest number n e = if_within-below greatest number n e
number_under false greatest number n e = absurd cc

-- a number is no more than the greatest one
pub numbered-within : (greatest : ℕ) (word : List ℕ) (n : ℕ) → numbered greatest word ≡ Ok n → n ≤ greatest
numbered-within greatest word n e = number_under (is_number word) greatest (digits_value 10 word) n (or_why-ok (number_up_to greatest word) n e)
