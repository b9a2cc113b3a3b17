-- All bad lines of a script.
use Rattle.std.specs.Prelude.{ℕ, ◌+◌, if◌then◌else◌, nat_le, List, [], ◌∷◌, length, map, Option, Some, None}
use Rattle.std.specs.Str.Lines.{lines}
use Rattle.geos_image.specs.Parts.{Parts}
use Rattle.script_commands.specs.declared.named_lines.Line.{Line}
use Rattle.script_commands.specs.Lines.{is_bad}
use Rattle.script_commands.specs.Names.{Names, Said, is_bad_in, lines_said, most_kept, names_behind}

-- the numbers of lines
abbrev pub numbers : List Line → List ℕ
numbers lines = map (λ line. line.number) lines

-- the first of some numbers, if there is one
abbrev pub first_of : List ℕ → Option ℕ
first_of [] = None
first_of (number ∷ others) = Some number

-- the numbers of the bad lines, which are counted from n on
abbrev pub bad_from : Parts → ℕ → List (List ℕ) → List ℕ
bad_from image n [] = []
bad_from image n (line ∷ lines) = if is_bad image line then n ∷ bad_from image (n + 1) lines else bad_from image (n + 1) lines

-- the numbers of the bad lines of a script
abbrev pub bad_lines : Parts → List ℕ → List ℕ
bad_lines image script = bad_from image 1 (lines script)

-- the names that are known after a line, bad or not: only the first 1,024 lines that store a word count
abbrev pub names_kept : Names → List (List ℕ) → Names
names_kept names ws = if nat_le most_kept (length names) then names else names_behind names ws (Some 0)

-- the numbers of the bad lines, each checked after all lines before it, starting with these names
abbrev pub bad_behind : Parts → Names → List Said → List ℕ
bad_behind image names [] = []
bad_behind image names (line ∷ lines) = if is_bad_in image names line.words then line.number ∷ bad_behind image (names_kept names line.words) lines
    else bad_behind image (names_kept names line.words) lines

-- the bad lines of a script whose lines may use names
abbrev pub bad_lines_with_names : Parts → List ℕ → List ℕ
bad_lines_with_names image script = bad_behind image [] (lines_said script)
