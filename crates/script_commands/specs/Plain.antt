-- What is promised of lines, and of scripts, that write no name.
use Rattle.std.specs.Prelude.{◌≡◌, ℕ, false, List, [], All}
use Rattle.std.specs.Str.Lines.{lines}
use Rattle.geos_image.specs.Parts.{Parts}
use Rattle.geos_text.specs.Words.{words}
use Rattle.script_commands.specs.Lines.{command_of, first_bad, said}
use Rattle.script_commands.specs.Names.{Names, command_in, first_bad_in, lines_said, writes_name}

-- no word of a line writes a name
abbrev pub WritesNone : List (List ℕ) → Type 0
WritesNone ws = All (λ word. writes_name word ≡ false) ws

-- no line of a script does
abbrev pub IsPlain : List ℕ → Type 0
IsPlain script = All (λ line. WritesNone (said line)) (lines script)

-- a line without names is the same command, whether names may be used or not
abbrev pub PlainLinesSay : Type 0
PlainLinesSay = (image : Parts) (names : Names) (line : List ℕ) → WritesNone (words line)
    → command_in image names (words line) ≡ command_of image (words line)

-- a script without names has the same first bad line, whether names may be used or not
abbrev pub PlainScriptsAreBad : Type 0
PlainScriptsAreBad = (image : Parts) (script : List ℕ) → IsPlain script → first_bad_in image [] (lines_said script) ≡ first_bad image (lines script)
