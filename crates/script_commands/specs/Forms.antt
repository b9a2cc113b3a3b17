-- What is printed of an output in a form.
use Rattle.std.specs.Prelude.{ℕ, zero, suc, ◌+◌, ◌-◌, ◌/◌, ◌%◌, ◌==◌, nat_lt, if◌then◌else◌, decimal, codes}
use Rattle.std.specs.Prelude.{List, [], ◌∷◌, ◌++◌, take, flat_map, slice_index, unwrap_or, option_map, slice_get}
use Rattle.std.specs.Str.Lines.{lines}
use Rattle.vm_file.specs.declared.commit.How.{How}
use Rattle.vm_file.specs.declared.commit.How.TheVariants.{Update, Save, Revert}
use Rattle.geos_image.specs.Parts.{Parts}
use Rattle.geos_text.specs.Numbers.{number_of}
use Rattle.script_commands.specs.declared.form.Form.{Form}
use Rattle.script_commands.specs.declared.form.Writing.{Writing}
use Rattle.script_commands.specs.declared.form.Writing.TheVariants.{Decimal, Hex, Signed, Text}
use Rattle.script_commands.specs.declared.command.Command.{Command}
use Rattle.script_commands.specs.declared.command.Command.TheVariants as command
use Rattle.script_commands.specs.Lent.{lent_by}
use Rattle.script_commands.specs.Lines.{name_text}

-- a hexadecimal digit
abbrev pub hex_digit : ℕ → ℕ
hex_digit n = if nat_lt n 10 then 48 + n else 87 + n

-- `0x` and four hexadecimal digits
abbrev pub hex_word : ℕ → List ℕ
hex_word word = 48 ∷ 120 ∷ hex_digit (word / 4096) ∷ hex_digit (word / 256 % 16) ∷ hex_digit (word / 16 % 16) ∷ hex_digit (word % 16) ∷ []

-- a word as a signed number: from 32,768 on it is negative, with a `-`
abbrev pub signed_word : ℕ → List ℕ
signed_word word = if nat_lt word 32768 then decimal word else 45 ∷ decimal (65536 - word)

-- the byte that a word is, or the two of a larger one, the low one first
abbrev pub text_word : ℕ → List ℕ
text_word word = if nat_lt word 256 then word ∷ [] else word % 256 ∷ word / 256 ∷ []

-- a word in a form
abbrev pub word_in : Writing → ℕ → List ℕ
word_in Decimal word = decimal word
word_in Hex word = hex_word word
word_in Signed word = signed_word word
word_in Text word = text_word word

-- a line that is printed plainly: a word in a form, and what is no word as it is
abbrev pub line_in : Writing → List ℕ → List ℕ
line_in writing line = unwrap_or (option_map (word_in writing) (number_of line)) line

-- lines in a form, each between a front and an end
abbrev pub lines_in : Writing → List ℕ → List ℕ → List (List ℕ) → List ℕ
lines_in writing front end lines = flat_map (λ line. front ++ line_in writing line ++ end) lines

-- bytes on a line, if there are any
abbrev pub on_a_line : List ℕ → List ℕ → List ℕ
on_a_line front [] = []
on_a_line front (byte ∷ bytes) = front ++ (byte ∷ bytes) ++ 10 ∷ []

-- the plain output of a command in another form: one line for each
-- word, with the label first; or one line with all bytes of a text
abbrev pub in_form : Writing → List ℕ → List ℕ → List ℕ
in_form Decimal label plain = lines_in Decimal label (10 ∷ []) (lines plain)
in_form Hex label plain = lines_in Hex label (10 ∷ []) (lines plain)
in_form Signed label plain = lines_in Signed label (10 ∷ []) (lines plain)
in_form Text label plain = on_a_line label (lines_in Text [] [] (lines plain))

-- how many of the first n words are left without the zeros at their end
abbrev pub words_said : List ℕ → ℕ → ℕ
words_said words zero = 0
words_said words (suc n) = if slice_index words n == 0 then words_said words n else suc n

-- the word of a commit
abbrev pub commit_word : How → List ℕ
commit_word Update = codes "update"
commit_word Save = codes "save"
commit_word Revert = codes "revert"

-- the label of a command's output: a call's routine name, its words without the
-- zeros at their end, and the blocks that it passes; or the word of a commit
abbrev pub label_of : Parts → Command → List ℕ
label_of image (command.Call call) =
    unwrap_or (option_map name_text (slice_get image.routines call.routine)) []
    ++ flat_map (λ word. codes " " ++ decimal word) (take (words_said call.words 8) call.words)
    ++ flat_map (λ h. codes " @" ++ decimal h) (lent_by image call)
    ++ codes ": "
label_of image (command.Commit how) = commit_word how ++ codes ": "

-- the label, if the form has one
abbrev pub label_in : Form → Parts → Command → List ℕ
label_in form image command = if form.label then label_of image command else []

-- what a command prints in a form, by what it prints plainly
abbrev pub shown_in : Form → Parts → Command → List ℕ → List ℕ
shown_in form image command plain = in_form form.writing (label_in form image command) plain
