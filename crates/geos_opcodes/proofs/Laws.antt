-- The table: an opcode is found by its code, and by its word.
use Rattle.std.proofs.Common.{◌≡◌, ℕ, ◌-◌, ◌<◌, Bool, true, false, Option, None, Some, refl, subst}
use Rattle.std.specs.Prelude.{◌==◌, ◌||◌, slice_get}
use Rattle.std.proofs.lemmas.Bool.{eqb-true, ne_eqb, agree_below_at}
use Rattle.geos_opcodes.specs.declared.opcode.Opcode.{Opcode}
use Rattle.geos_opcodes.specs.declared.opcode.Opcode.TheVariants.{Ldi}
use Rattle.geos_opcodes.specs.Facts.{code_of, opcodes, opcode_of, word_of, opcode_of_word}

-- the opcode of an opcode's code is that one, so no two have one code
pub opcode_again : (opcode : Opcode) → opcode_of (code_of opcode) ≡ Some opcode
opcode_again Ldi = refl
opcode_again _ = refl

-- the opcode of an opcode's word is that one, so no two have one word
pub word_again : (opcode : Opcode) → opcode_of_word (word_of opcode) ≡ Some opcode
word_again Ldi = refl
word_again _ = refl

-- whether there is none
abbrev lacks : Option Opcode → Bool
lacks (Some opcode) = false
lacks None = true

-- the byte encodes the opcode, or no opcode if none is given
abbrev spells : ℕ → Option Opcode → Bool
spells code (Some opcode) = code_of opcode == code
spells code None = lacks (opcode_of code)

none_of_lacks : (found : Option Opcode) → lacks found ≡ true → found ≡ None
none_of_lacks None h = refl
none_of_lacks (Some opcode) h = absurd cc

opcode_of_spells : (code : ℕ) (found : Option Opcode) → spells code found ≡ true → opcode_of code ≡ found
opcode_of_spells code (Some opcode) h =
    subst (λ (k : ℕ). opcode_of k ≡ Some opcode) (eqb-true _ _ h) (opcode_again opcode)
opcode_of_spells code None h = none_of_lacks (opcode_of code) h

-- the opcode of a byte is at position `code - 1` of the list
pub opcode_placed : (code : ℕ) → code < 256 → (code ≡ 0 → ⊥) → opcode_of code ≡ slice_get opcodes (code - 1)
opcode_placed code lt some =
    let test = agree_below_at (λ k. k == 0 || spells k (slice_get opcodes (k - 1))) (λ _. true) 256 code refl lt in
    opcode_of_spells code (slice_get opcodes (code - 1)) (rw (ne_eqb code 0 some) at test)
