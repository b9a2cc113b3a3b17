-- Names for words that calls output, and the lines of a script that use names.
use Rattle.std.specs.Prelude.{ℕ, ◌+◌, Bool, false, ◌&&◌, ◌||◌, ◌==◌, if◌then◌else◌, nat_le, bytes_eq, codes, decimal}
use Rattle.std.specs.Prelude.{List, [], ◌∷◌, ◌++◌, length, map, Option, Some, None, option_map, option_and_then, is_none, is_some}
use Rattle.std.specs.List.{list_all}
use Rattle.std.specs.Char.{is_ascii_alphanumeric}
use Rattle.std.specs.Str.Lines.{lines}
use Rattle.geos_image.specs.Parts.{Parts}
use Rattle.geos_text.specs.Words.{is_empty, words}
use Rattle.geos_text.specs.Numbers.{number_of}
use Rattle.script_commands.specs.declared.kept.Kept.{Kept}
use Rattle.script_commands.specs.declared.named_lines.Line.{Line}
use Rattle.script_commands.specs.declared.command.Command.{Command}
use Rattle.script_commands.specs.declared.command.Command.TheVariants as command
use Rattle.script_commands.specs.Lines.{command_of, said}

-- names, each with the word that it stands for, or with none, in the order in which lines stored them
abbrev pub Names : Type 0
Names = List (List ℕ × Option ℕ)

-- the names that the program stores
abbrev pub names_of : List Kept → Names
names_of kept = map (λ k. (k.name.now, k.word)) kept

-- the word of a name after these further names: of two equal names the later one counts
abbrev pub word_behind : Option ℕ → List ℕ → Names → Option ℕ
word_behind found name [] = found
word_behind found name (kept ∷ names) = word_behind (if bytes_eq kept.0 name then kept.1 else found) name names

-- the word that a name stands for
abbrev pub word_of : List ℕ → Names → Option ℕ
word_of name names = word_behind None name names

-- `$name` becomes the number of its word; other words are unchanged
abbrev pub number_in_place : Names → List ℕ → Option (List ℕ)
number_in_place names [] = Some []
number_in_place names (b ∷ name) = if b == 36 then option_map decimal (word_of name names) else Some (b ∷ name)

-- the same for the part of a word after an `@`
abbrev pub word_in_place : Names → List ℕ → Option (List ℕ)
word_in_place names [] = Some []
word_in_place names (b ∷ rest) = if b == 64 then option_map (λ number. 64 ∷ number) (number_in_place names rest) else number_in_place names (b ∷ rest)

-- the word `->`
abbrev pub is_arrow : List ℕ → Bool
is_arrow word = bytes_eq word (codes "->")

-- the line of these words up to `->`, with numbers instead of names
abbrev pub in_place : Names → List (List ℕ) → Option (List ℕ)
in_place names [] = Some []
in_place names (w ∷ ws) = if is_arrow w then Some [] else option_and_then (λ own. option_map (λ rest. 32 ∷ own ++ rest) (in_place names ws))
    (word_in_place names w)

-- the words after `->`, if it is there
abbrev pub behind_arrow : List (List ℕ) → Option (List (List ℕ))
behind_arrow [] = None
behind_arrow (w ∷ ws) = if is_arrow w then Some ws else behind_arrow ws

-- a word begins with `$`
abbrev pub begins_name : List ℕ → Bool
begins_name [] = false
begins_name (b ∷ name) = b == 36

-- a word uses a name, possibly after an `@`; or it is `->`
abbrev pub writes_name : List ℕ → Bool
writes_name [] = false
writes_name (b ∷ rest) = b == 36 || (b == 64 && begins_name rest) || is_arrow (b ∷ rest)

-- a letter, a digit or an underscore
abbrev pub is_name_byte : ℕ → Bool
is_name_byte b = is_ascii_alphanumeric b || b == 95

-- each byte is a letter, a digit or an underscore
abbrev pub is_name : List ℕ → Bool
is_name word = list_all is_name_byte word

-- exactly one name
abbrev pub one_name : List (List ℕ) → Option (List ℕ)
one_name [] = None
one_name (name ∷ ws) = if is_name name && is_empty ws then Some name else None

-- the name under which a line stores a word
abbrev pub kept_name : List (List ℕ) → Option (List ℕ)
kept_name ws = option_and_then one_name (behind_arrow ws)

-- a command may be on the line: only a call may have a `->`, followed by exactly one name
abbrev pub may_keep : List (List ℕ) → Command → Bool
may_keep ws (command.Call call) = is_none (behind_arrow ws) || is_some (kept_name ws)
may_keep ws (command.Commit how) = is_none (behind_arrow ws)

-- the command, if it may be on the line
abbrev pub if_kept : List (List ℕ) → Command → Option Command
if_kept ws c = if may_keep ws c then Some c else None

-- the command of a line: the command of the same line with numbers instead of names
abbrev pub command_in : Parts → Names → List (List ℕ) → Option Command
command_in image names ws = option_and_then (if_kept ws) (option_and_then (λ line. command_of image (words line)) (in_place names ws))

-- the names after a line, if this is the first word that its call output, if it output one
abbrev pub names_behind : Names → List (List ℕ) → Option ℕ → Names
names_behind names ws word = names ++ map (λ name. (name, word)) (elim (kept_name ws) [ None ↦ [] | Some name ↦ name ∷ [] ])

-- a line that is not empty: its number and its words
pub record Said : Type 0 where
  pub number : ℕ
  pub words : List (List ℕ)

-- the number and the words of a line
abbrev pub said_by : Line → Said
said_by line = record { number = line.number; words = words line.text.now }

-- the lines that are not empty, numbered from n on
abbrev pub said_from : ℕ → List (List ℕ) → List Said
said_from n [] = []
said_from n (line ∷ lines) = if is_empty (said line) then said_from (n + 1) lines else record { number = n; words = said line }
    ∷ said_from (n + 1) lines

-- the lines of a script that are not empty
abbrev pub lines_said : List ℕ → List Said
lines_said script = said_from 1 (lines script)

-- the maximum number of lines of a script that store a word
abbrev pub most_kept : ℕ
most_kept = 1024

-- a line is bad after lines that store these names, whatever their words will be:
-- with 0 instead of each name it is no command, or it stores one word too many
abbrev pub is_bad_in : Parts → Names → List (List ℕ) → Bool
is_bad_in image names ws = is_none (command_in image names ws) || (is_some (kept_name ws) && nat_le most_kept (length names))

-- the number of the first bad line
abbrev pub first_bad_in : Parts → Names → List Said → Option ℕ
first_bad_in image names [] = None
first_bad_in image names (line ∷ lines) =
    if is_bad_in image names line.words then Some line.number else first_bad_in image (names_behind names line.words (Some 0)) lines

-- the word on the first of some lines
abbrev pub word_on_first : List (List ℕ) → Option ℕ
word_on_first [] = None
word_on_first (line ∷ lines) = number_of line

-- the first word that a command output, by its plain output
abbrev pub first_put_out : List ℕ → Option ℕ
first_put_out plain = word_on_first (lines plain)
