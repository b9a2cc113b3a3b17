-- Digits, two for each byte.
use Rattle.std.proofs.Common.{◌≡◌, ◌<◌, ℕ, ◌+◌, ◌*◌, ◌/◌, ◌%◌, List, [], ◌∷◌, ◌++◌, length, Some, None, refl, sym, ap, ◌∙◌, arith, append_assoc, append-nil, length-append}
use Rattle.std.specs.Prelude.{flat_map}
use Rattle.std.proofs.lemmas.Grind.{flat_map-append}
use Rattle.geos_input.specs.Hex.{bytes_of, digits_in}

-- the two digits of a byte
abbrev pub digits_of_byte : ℕ → List ℕ
digits_of_byte byte = byte / 16 ∷ byte % 16 ∷ []

-- the digits of bytes are those bytes
pub bytes_of-digits : (bytes : List ℕ) → bytes_of (digits_in bytes None) ≡ bytes
bytes_of-digits [] = refl
bytes_of-digits (b ∷ bytes) =
    let same : 16 * (b / 16) + b % 16 ≡ b = omega arith in
    rw (same, bytes_of-digits bytes) refl

-- bytes have two digits each
length-digits : (bytes : List ℕ) → length (flat_map digits_of_byte bytes) ≡ 2 * length bytes
length-digits [] = refl
length-digits (b ∷ bytes) = omega (arith, length-digits bytes)

pub digits-even : (bytes : List ℕ) → length (digits_in bytes None) % 2 ≡ 0
digits-even bytes =
    let len : length (digits_in bytes None) ≡ 2 * length bytes =
    omega (arith, length-append (flat_map digits_of_byte bytes) [], length-digits bytes) in
    rw len (omega arith)

pub digits-odd : (bytes : List ℕ) (high : ℕ) → length (digits_in bytes (Some high)) % 2 ≡ 1
digits-odd bytes high =
    let len : length (digits_in bytes (Some high)) ≡ 2 * length bytes + 1 =
    omega (arith, length-append (flat_map digits_of_byte bytes) (high ∷ []), length-digits bytes) in
    rw len (omega arith)

-- a digit whose pair comes makes a byte
pub digits-paired : (bytes : List ℕ) (high low : ℕ) → high < 16 → low < 16
    → digits_in (bytes ++ (16 * high + low) ∷ []) None ≡ digits_in bytes (Some high) ++ low ∷ []
digits-paired bytes high low p q =
    let first : (16 * high + low) / 16 ≡ high = omega arith in
    let second : (16 * high + low) % 16 ≡ low = omega arith in
    let one : digits_of_byte (16 * high + low) ≡ high ∷ low ∷ [] = rw (first, second) refl in
    append-nil (flat_map digits_of_byte (bytes ++ (16 * high + low) ∷ [])) ∙ flat_map-append digits_of_byte bytes ((16 * high + low) ∷ [])
    ∙ ap (λ ds. flat_map digits_of_byte bytes ++ (ds ++ [])) one ∙ sym (append_assoc (flat_map digits_of_byte bytes) (high ∷ []) (low ∷ []))

-- a digit whose pair has not come
pub digits-high : (bytes : List ℕ) (high : ℕ) → digits_in bytes (Some high) ≡ digits_in bytes None ++ high ∷ []
digits-high bytes high = rw (append-nil (flat_map digits_of_byte bytes)) refl
