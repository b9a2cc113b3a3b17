-- Numbers and registers that are written are read back.
use Rattle.std.proofs.Common.{◌≡◌, ◌∙◌, ◌<◌, ◌≤◌, ◌^◌, ℕ, ◌+◌, ◌-◌, Bool, true, false, cond, not, ◌==◌, List, [], ◌∷◌, length, Some, Ok, Err, refl, sym, ap, arith}
use Rattle.std.specs.Prelude.{decimal}
use Rattle.std.specs.List.{list_all}
use Rattle.std.specs.Char.{is_ascii_digit}
use Rattle.std.specs.Str.Parse.{digits_value}
use Rattle.std.proofs.lemmas.Bool.{and_parts, and_from, true≢false, ne_eqb, eq-eqb, le-leb, lt-ltb, leb-true}
use Rattle.std.proofs.lemmas.Fmt.{digits_decimal, decimal_is_IsNumeral, decimal_digit}
use Rattle.std.proofs.lemmas.Str.Parse.{IsDigitsTest, numerals_by_value}
use Rattle.geos_text.specs.declared.numbers.NumberError.TheVariants.{Malformed, TooLarge}
use Rattle.geos_text.specs.Words.{is_empty}
use Rattle.geos_text.specs.Numbers.{is_number, if_within}
use Rattle.geos_text.specs.Registers.{register_of}
use Rattle.geos_source.specs.Operands.{or_why, numbered}
use Rattle.round_trip.proofs.Spaced.{is_inner, is_word}

-- what a test tells from a byte is not that byte
pub apart : (test : ℕ → Bool) (b k : ℕ) → test k ≡ false → test b ≡ true → (b == k) ≡ false
apart test b k fails passes = ne_eqb b k (λ same. true≢false (sym passes ∙ ap test same ∙ fails))

-- a test tells bytes of words from others
pub record TellsInner (test : ℕ → Bool) : Type 0 where
  pub tab : test 9 ≡ false
  pub feed : test 10 ≡ false
  pub return : test 13 ≡ false
  pub space : test 32 ≡ false
  pub comment : test 59 ≡ false

inner_by : (test : ℕ → Bool) → TellsInner test → (b : ℕ) → test b ≡ true → is_inner b ≡ true
inner_by test tells b h =
    rw (
      apart test b 9 tells.tab h,
      apart test b 10 tells.feed h,
      apart test b 13 tells.return h,
      apart test b 32 tells.space h,
      apart test b 59 tells.comment h,
    ) refl

pub all_inner : (test : ℕ → Bool) → TellsInner test → (text : List ℕ) → list_all test text ≡ true → list_all is_inner text ≡ true
all_inner test tells [] h = refl
all_inner test tells (b ∷ text) h =
    let p = and_parts (test b) (list_all test text) h in
    and_from (is_inner b) (list_all is_inner text) (inner_by test tells b p.0) (all_inner test tells text p.1)

-- some bytes of words are a word
pub some_word : (text : List ℕ) → 0 < length text → list_all is_inner text ≡ true → is_word text ≡ true
some_word [] some h = absurd (omega (arith, some))
some_word (b ∷ text) some h = h

-- digits

tells_digits : IsDigitsTest (λ ds. list_all is_ascii_digit ds ≡ true)
tells_digits =
    record {
      empty = refl;
      parts = λ c cs h. let p = and_parts (is_ascii_digit c) (list_all is_ascii_digit cs) h in let q = and_parts _ _ p.0 in
          ((leb-true 48 c q.0, leb-true c 57 q.1), p.1);
      more = λ c cs r h. and_from (is_ascii_digit c) (list_all is_ascii_digit cs) (and_from _ _ (le-leb 48 c r.0) (le-leb c 57 r.1)) h;
    }

pub decimal-digits : (n : ℕ) → n < 2 ^ 64 → list_all is_ascii_digit (decimal n) ≡ true
decimal-digits n small = digits_decimal (numerals_by_value (λ ds. list_all is_ascii_digit ds ≡ true) tells_digits) n small

pub decimal-some : (n : ℕ) → n < 2 ^ 64 → 0 < length (decimal n)
decimal-some n small = (decimal_is_IsNumeral n small).0.0

pub decimal-inner : (n : ℕ) → n < 2 ^ 64 → list_all is_inner (decimal n) ≡ true
decimal-inner n small =
    let tells : TellsInner is_ascii_digit = record { tab = refl; feed = refl; return = refl; space = refl; comment = refl } in
    all_inner is_ascii_digit tells (decimal n) (decimal-digits n small)

pub decimal-word : (n : ℕ) → n < 2 ^ 64 → is_word (decimal n) ≡ true
decimal-word n small = some_word (decimal n) (decimal-some n small) (decimal-inner n small)

not_empty : (text : List ℕ) → 0 < length text → not (is_empty text) ≡ true
not_empty [] some = absurd (omega (arith, some))
not_empty (b ∷ text) some = refl

-- a number in decimal digits is that number
pub numbered-again : (greatest n : ℕ) → n < 2 ^ 64 → n ≤ greatest → numbered greatest (decimal n) ≡ Ok n
numbered-again greatest n small within =
    let word = decimal n in
    let is : is_number word ≡ true = and_from (not (is_empty word)) (list_all is_ascii_digit word)
    (not_empty word (decimal-some n small)) (decimal-digits n small) in
    ap (λ b. or_why (cond b (if_within greatest (digits_value 10 word)) (Err Malformed))) is
    ∙ ap (λ m. or_why (if_within greatest m)) ((decimal_is_IsNumeral n small).1)
    ∙ ap (λ b. or_why (cond b (Ok n) (Err TooLarge))) (le-leb n greatest within)

-- registers

pub register-digit : (letter count n : ℕ) → n < count → register_of letter count (letter ∷ (48 + n) ∷ []) ≡ Some n
register-digit letter count n below =
    let back : (48 + n) - 48 ≡ n = omega arith in
    rw (eq-eqb letter letter refl, le-leb 48 (48 + n) (omega arith), lt-ltb (48 + n) (48 + count) (omega (arith, below))) (ap (λ k. Some k) back)

-- a register's letter and digit are that register
pub register_of-again : (letter count n : ℕ) → n < count → n < 10 → register_of letter count (letter ∷ decimal n) ≡ Some n
register_of-again letter count n below small = ap (λ ds. register_of letter count (letter ∷ ds)) (decimal_digit n small)
    ∙ register-digit letter count n below
