-- Which lines of a text have an instruction.
use Rattle.std.specs.Prelude.{ℕ, ◌+◌, Bool, true, false, ◌||◌, not, if◌then◌else◌, List, [], ◌∷◌, ◌++◌, codes, bytes_eq}
use Rattle.std.specs.Str.Lines.{lines}
use Rattle.geos_source.specs.Lines.{parted, said}

-- a statement begins with a word that is none of `routine`, `in` and `out`
abbrev pub is_instr : List (List ℕ) → Bool
is_instr [] = false
is_instr (word ∷ words) = not (bytes_eq word (codes "routine") || bytes_eq word (codes "in") || bytes_eq word (codes "out"))

-- a line has an instruction
unfoldable pub has_instr : List ℕ → Bool
has_instr line = is_instr (parted (said line)).statement

-- of lines from a number on, the numbers of those that have an instruction
abbrev pub instr_lines_from : ℕ → List (List ℕ) → List ℕ
instr_lines_from number [] = []
instr_lines_from number (line ∷ rest) =
    if has_instr line then number ∷ instr_lines_from (number + 1) rest else instr_lines_from (number + 1) rest

-- numbers of lines, with one more where that line has an instruction
abbrev pub with_number_if : Bool → ℕ → List ℕ → List ℕ
with_number_if true number numbers = numbers ++ number ∷ []
with_number_if false number numbers = numbers

-- the numbers of a text's lines that have an instruction, from 1
abbrev pub instr_lines : List ℕ → List ℕ
instr_lines text = instr_lines_from 1 (lines text)
