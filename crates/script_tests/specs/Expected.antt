-- What lines of a test script are to print.
use Rattle.std.specs.Prelude.{◌≡◌, ℕ, Bool, true, if◌then◌else◌, bytes_eq, codes, List, [], ◌∷◌, Option, Some, None, flat_map, is_some, IfSome}
use Rattle.std.specs.List.{count_by}
use Rattle.std.specs.Str.Lines.{lines}
use Rattle.geos_text.specs.Words.{words}
use Rattle.script_commands.specs.Lines.{said}
use Rattle.script_tests.specs.declared.lines.TestLine.{TestLine}

-- the word `=>`
abbrev pub is_arrow : List ℕ → Bool
is_arrow word = bytes_eq word (codes "=>")

-- the words after the first `=>`, if it is there
abbrev pub after_arrow : List (List ℕ) → Option (List (List ℕ))
after_arrow [] = None
after_arrow (w ∷ ws) = if is_arrow w then Some ws else after_arrow ws

-- what a line is to print: the words after its `=>`; the first word of a line is a part of its command
abbrev pub expected_in : List (List ℕ) → Option (List (List ℕ))
expected_in [] = None
expected_in (w ∷ ws) = after_arrow ws

-- the words of what was printed, line by line
abbrev pub words_printed : List ℕ → List (List ℕ)
words_printed printed = flat_map words (lines printed)

-- a line states what it should print
abbrev pub expects : List ℕ → Bool
expects line = is_some (expected_in (said line))

-- how many lines of a script do
abbrev pub expecting : List ℕ → ℕ
expecting script = count_by expects (lines script)

-- how many of these lines do
abbrev pub expecting_of : List TestLine → ℕ
expecting_of lines = count_by (λ line. is_some line.expected) lines

-- a line printed what it states
abbrev pub Passes : TestLine → List ℕ → Type 0
Passes line printed = IfSome line.expected (λ expected. words expected.now ≡ words_printed printed) × (is_some line.expected ≡ true)
