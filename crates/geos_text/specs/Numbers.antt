-- Numbers in decimal digits.
use Rattle.std.specs.Prelude.{ℕ, Bool, not, ◌&&◌, nat_le, if◌then◌else◌, List, Option, Result, Ok, Err}
use Rattle.std.specs.Result.{result_ok}
use Rattle.std.specs.List.{list_all}
use Rattle.std.specs.Char.{is_ascii_digit}
use Rattle.std.specs.Str.Parse.{digits_value}
use Rattle.geos_text.specs.declared.numbers.NumberError.{NumberError}
use Rattle.geos_text.specs.declared.numbers.NumberError.TheVariants.{Malformed, TooLarge}
use Rattle.geos_text.specs.Words.{is_empty}

-- only decimal digits, and at least one
abbrev pub is_number : List ℕ → Bool
is_number word = not (is_empty word) && list_all is_ascii_digit word

-- the number, if it is not above the greatest one
abbrev pub if_within : ℕ → ℕ → Result ℕ NumberError
if_within greatest number = if nat_le number greatest then Ok number else Err TooLarge

-- a number up to the greatest one in decimal digits, of which the first ones may be zeros
abbrev pub number_up_to : ℕ → List ℕ → Result ℕ NumberError
number_up_to greatest word = if is_number word then if_within greatest (digits_value 10 word) else Err Malformed

-- a number up to 65,535 in decimal digits
abbrev pub number_of : List ℕ → Option ℕ
number_of word = result_ok (number_up_to 65535 word)
