-- Images in hexadecimal digits, up to a line `end`.
use Rattle.std.specs.Prelude.{◌≡◌, ℕ, ◌+◌, ◌*◌, ◌/◌, ◌%◌, Bool, ◌||◌, not, ◌==◌, nat_lt, if◌then◌else◌}
use Rattle.std.specs.Prelude.{List, [], ◌∷◌, ◌++◌, length, filter_map, flat_map, Option, Some, None, option_to_list, codes, bytes_eq}
use Rattle.std.specs.List.{list_all, before_first, after_first, position_from}
use Rattle.std.specs.Char.{digit_value}
use Rattle.std.specs.Cmp.Lexicographic.{pointwise}
use Rattle.geos_input.specs.declared.fault.ScriptFault.{ScriptFault}
use Rattle.geos_input.specs.declared.fault.ScriptFault.TheVariants.{BadHex, Memory}
use Rattle.geos_text.specs.Words.{is_blank, words}

-- the value of a hexadecimal digit of either case
abbrev pub digit_of : ℕ → Option ℕ
digit_of byte = if nat_lt (digit_value byte) 16 then Some (digit_value byte) else None

-- only digits and blanks
abbrev pub is_hex_line : List ℕ → Bool
is_hex_line line = list_all (λ byte. is_blank byte || nat_lt (digit_value byte) 16) line

-- only the word `end`
abbrev pub is_end : List ℕ → Bool
is_end line = pointwise bytes_eq (words line) (codes "end" ∷ [])

-- the lines before the line `end`, or all lines if there is none
abbrev pub hex_lines : List (List ℕ) → List (List ℕ)
hex_lines lines = before_first is_end lines

-- the lines after the line `end`
abbrev pub script_lines : List (List ℕ) → List (List ℕ)
script_lines lines = after_first is_end lines

-- the digits of lines
abbrev pub digits_of : List (List ℕ) → List ℕ
digits_of lines = flat_map (λ line. filter_map digit_of line) lines

-- a byte for each two digits, the high one first
abbrev pub bytes_of : List ℕ → List ℕ
bytes_of [] = []
bytes_of (high ∷ []) = []
bytes_of (high ∷ low ∷ digits) = (16 * high + low) ∷ bytes_of digits

-- the first of three faults: a line with another character; no line `end`, reported as line 0; or a line `end` after
-- an odd number of digits
abbrev pub first_hex_fault : Option ℕ → Option ℕ → List ℕ → Option ℕ
first_hex_fault (Some line) end digits = Some line
first_hex_fault None None digits = Some 0
first_hex_fault None (Some line) digits = if length digits % 2 == 0 then None else Some line

-- the number of the line at fault, from 1
abbrev pub hex_fault : List (List ℕ) → Option ℕ
hex_fault lines =
    first_hex_fault (position_from (λ line. not (is_hex_line line)) 1 (hex_lines lines)) (position_from is_end 1 lines) (digits_of (hex_lines lines))

-- the image before the line `end`
abbrev pub image_bytes : List (List ℕ) → List ℕ
image_bytes lines = bytes_of (digits_of (hex_lines lines))

-- the digits of bytes, and a last one whose pair has not come
abbrev pub digits_in : List ℕ → Option ℕ → List ℕ
digits_in bytes high = flat_map (λ byte. byte / 16 ∷ byte % 16 ∷ []) bytes ++ option_to_list high

-- the digits are added after those that are already in bytes, and after a last one without its pair
abbrev pub Takes : List ℕ → Option ℕ → List ℕ → Option ℕ → List ℕ → Type 0
Takes bytes high new_bytes new_high digits = digits_in new_bytes new_high ≡ digits_in bytes high ++ digits

-- why the lines are no image in digits
abbrev pub IsBadHex : List (List ℕ) → ScriptFault → Type 0
IsBadHex lines (BadHex line) = hex_fault lines ≡ Some line
IsBadHex lines Memory = Unit {0}
IsBadHex lines _ = ⊥
