-- The definitions of texts, computed on examples.
use Rattle.std.proofs.Common.{◌≡◌, [], ◌∷◌, Some, None, Ok, Err, refl}
use Rattle.std.specs.Prelude.{codes}
use Rattle.std.specs.Str.Lines.{lines}
use Rattle.geos_text.specs.declared.numbers.NumberError.TheVariants.{Malformed, TooLarge}
use Rattle.geos_text.specs.Words.{words, without_comment}
use Rattle.geos_text.specs.Numbers.{number_of, number_up_to}

-- lines end with LF, with CR LF, or with the text; a CR elsewhere stays
pub record Lines : Type 0 where
  pub none : lines [] ≡ []
  pub ends : lines (codes "a\r\nb\n\nc") ≡ codes "a" ∷ codes "b" ∷ [] ∷ codes "c" ∷ []
  pub last : lines (codes "a\n") ≡ codes "a" ∷ []
  pub inner : lines (codes "a\rb\r\r\nc\r") ≡ codes "a\rb\r" ∷ codes "c\r" ∷ []

lines_computed : Lines
lines_computed = record { none = refl; ends = refl; last = refl; inner = refl }

-- words are parted by spaces and tabs, and a comment is no word
pub record Words : Type 0 where
  pub parted : words (codes " \tcall  add\t2 3 ") ≡ codes "call" ∷ codes "add" ∷ codes "2" ∷ codes "3" ∷ []
  pub blank : words (codes " \t ") ≡ []
  pub comment : words (without_comment (codes "call add ; with 2; and 3")) ≡ codes "call" ∷ codes "add" ∷ []
  pub remark : words (without_comment (codes "; nothing")) ≡ []

words_computed : Words
words_computed = record { parted = refl; blank = refl; comment = refl; remark = refl }

-- numbers have only digits, and are within their range
pub record Numbers : Type 0 where
  pub zeros : number_of (codes "0007") ≡ Some 7
  pub greatest : number_of (codes "65535") ≡ Some 65535
  pub over : number_of (codes "65536") ≡ None
  pub none : number_of (codes "") ≡ None
  pub plus : number_of (codes "+5") ≡ None
  pub hex : number_of (codes "0x1") ≡ None
  pub large : number_up_to 15 (codes "16") ≡ Err TooLarge
  pub within : number_up_to 15 (codes "0015") ≡ Ok 15
  pub malformed : number_up_to 15 (codes "99x") ≡ Err Malformed

numbers_computed : Numbers
numbers_computed = record {
  zeros = refl;
  greatest = refl;
  over = refl;
  none = refl;
  plus = refl;
  hex = refl;
  large =
      refl;
  within = refl;
  malformed = refl;
}
