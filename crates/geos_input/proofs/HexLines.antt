-- The lines of an image in digits, read from the front.
use Rattle.std.proofs.Common.{◌≡◌, ℕ, suc, ◌+◌, ◌%◌, Bool, true, false, not, List, [], ◌∷◌, ◌++◌, length, Option, Some, None, refl, sym, ap, ◌∙◌, arith, append_assoc, append-nil}
use Rattle.std.specs.Prelude.{filter_map}
use Rattle.std.specs.List.{position_from, position_or_len}
use Rattle.geos_input.specs.Hex.{digit_of, digits_of, is_hex_line, is_end, hex_lines, script_lines, first_hex_fault}

abbrev pub not_hex : List ℕ → Bool
not_hex line = not (is_hex_line line)

-- the fault of the lines from number n on, after lines with these digits
abbrev pub hex_fault_after : ℕ → List ℕ → List (List ℕ) → Option ℕ
hex_fault_after n digits lines = first_hex_fault (position_from not_hex n (hex_lines lines)) (position_from is_end n lines)
    (digits ++ digits_of (hex_lines lines))

same-fault : (a b c d : Option ℕ) (digits others : List ℕ) → a ≡ b → c ≡ d → digits ≡ others → first_hex_fault a c digits ≡ first_hex_fault b d others
same-fault a b c d digits others e f h = ap (λ x. first_hex_fault x c digits) e ∙ ap (λ x. first_hex_fault b x digits) f ∙ ap (first_hex_fault b d) h

-- a line before `end`
pub hex_lines-more : (line : List ℕ) (lines : List (List ℕ)) → is_end line ≡ false → hex_lines (line ∷ lines) ≡ line ∷ hex_lines lines
hex_lines-more line lines e =
    let one : 1 + position_or_len is_end lines ≡ suc (position_or_len is_end lines) = omega arith in
    rw (e, one) refl

pub script_lines-more : (line : List ℕ) (lines : List (List ℕ)) → is_end line ≡ false → script_lines (line ∷ lines) ≡ script_lines lines
script_lines-more line lines e =
    let one : 1 + position_or_len is_end lines + 1 ≡ suc (position_or_len is_end lines + 1) = omega arith in
    rw (e, one) refl

-- the line `end`
pub hex_lines-end : (line : List ℕ) (lines : List (List ℕ)) → is_end line ≡ true → hex_lines (line ∷ lines) ≡ []
hex_lines-end line lines e = rw e refl

pub script_lines-end : (line : List ℕ) (lines : List (List ℕ)) → is_end line ≡ true → script_lines (line ∷ lines) ≡ lines
script_lines-end line lines e = rw e refl

-- a line of digits
pub fault-more : (n : ℕ) (digits line : List ℕ) (lines : List (List ℕ)) → is_end line ≡ false → is_hex_line line ≡ true
    → hex_fault_after n digits (line ∷ lines) ≡ hex_fault_after (n + 1) (digits ++ filter_map digit_of line) lines
fault-more n digits line lines e hex =
    let front = hex_lines-more line lines e in
    let others : position_from not_hex n (line ∷ hex_lines lines) ≡ position_from not_hex (n + 1) (hex_lines lines) = rw hex refl in
    let ends : position_from is_end n (line ∷ lines) ≡ position_from is_end (n + 1) lines = rw e refl in
    same-fault _ _ _ _ _ _ (ap (position_from not_hex n) front ∙ others) ends
    (ap (λ ls. digits ++ digits_of ls) front ∙ sym (append_assoc digits (filter_map digit_of line) (digits_of (hex_lines lines))))

-- a line with another character
pub fault-other : (n : ℕ) (digits line : List ℕ) (lines : List (List ℕ)) → is_end line ≡ false → is_hex_line line ≡ false
    → hex_fault_after n digits (line ∷ lines) ≡ Some n
fault-other n digits line lines e hex =
    let first : position_from not_hex n (line ∷ hex_lines lines) ≡ Some n = rw hex refl in
    same-fault _ _ _ _ _ _ (ap (position_from not_hex n) (hex_lines-more line lines e) ∙ first) refl refl

-- the line `end`
fault-end : (n : ℕ) (digits line : List ℕ) (lines : List (List ℕ)) → is_end line ≡ true
    → hex_fault_after n digits (line ∷ lines) ≡ first_hex_fault None (Some n) digits
fault-end n digits line lines e =
    let front = hex_lines-end line lines e in
    let ends : position_from is_end n (line ∷ lines) ≡ Some n = rw e refl in
    same-fault _ _ _ _ _ _ (ap (position_from not_hex n) front) ends (ap (λ ls. digits ++ digits_of ls) front ∙ append-nil digits)

-- the line `end` after an even number of digits
pub fault-even : (n : ℕ) (digits line : List ℕ) (lines : List (List ℕ)) → is_end line ≡ true → length digits % 2 ≡ 0
    → hex_fault_after n digits (line ∷ lines) ≡ None
fault-even n digits line lines e even = let none : first_hex_fault None (Some n) digits ≡ None = rw even refl in
    fault-end n digits line lines e ∙ none

-- the line `end` after an odd number of digits
pub fault-odd : (n : ℕ) (digits line : List ℕ) (lines : List (List ℕ)) → is_end line ≡ true → length digits % 2 ≡ 1
    → hex_fault_after n digits (line ∷ lines) ≡ Some n
fault-odd n digits line lines e odd = let some : first_hex_fault None (Some n) digits ≡ Some n = rw odd refl in fault-end n digits line lines e ∙ some
