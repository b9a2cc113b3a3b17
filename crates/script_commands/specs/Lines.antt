-- The commands that the lines of a script encode.
use Rattle.std.specs.Prelude.{◌≡◌, ℕ, ◌+◌, ◌-◌, Bool, true, ◌&&◌, ◌||◌, ◌==◌, false, not, nat_le, if◌then◌else◌, codes, bytes_eq}
use Rattle.std.specs.Prelude.{List, [], ◌∷◌, ◌++◌, length, replicate, take, position}
use Rattle.std.specs.Prelude.{Option, Some, None, option_map, option_and_then, is_none, unwrap_or}
use Rattle.std.specs.List.{cons_option, position_from}
use Rattle.vm_file.specs.declared.commit.How.{How}
use Rattle.vm_file.specs.declared.commit.How.TheVariants.{Update, Save, Revert}
use Rattle.geos_image.specs.declared.routine.Routine.{Routine}
use Rattle.geos_image.specs.declared.row.SlotState.{SlotState}
use Rattle.geos_image.specs.Parts.{Parts}
use Rattle.geos_image.specs.Legal.{text_end, is_own}
use Rattle.geos_verify.specs.Lists.{all2}
use Rattle.geos_verify.specs.Entry.{admits, entry_slots}
use Rattle.geos_text.specs.Words.{is_empty, words, without_comment}
use Rattle.geos_text.specs.Numbers.{number_of}
use Rattle.geos_input.specs.declared.fault.ScriptFault.{ScriptFault}
use Rattle.geos_input.specs.declared.fault.ScriptFault.TheVariants.{BadScript, Memory}
use Rattle.script_commands.specs.declared.command.Call.{Call}
use Rattle.script_commands.specs.declared.command.Command.{Command}
use Rattle.script_commands.specs.declared.command.Command.TheVariants as command
use Rattle.script_commands.specs.declared.command.Numbered.{Numbered}

-- the handle for a slot is 0 unless the slot is borrowed
abbrev pub is_placed : SlotState → ℕ → Bool
is_placed state h = not (is_own state) || h == 0

-- the machine admits the call, and handles are given only for slots that are borrowed
abbrev pub may_ask : Parts → Call → Bool
may_ask image call = admits image call.routine call.words && all2 is_placed (entry_slots image call.routine) call.handles

-- the machine admits the call; it admits every commit
abbrev pub IsAdmitted : Parts → Command → Type 0
IsAdmitted image (command.Call call) = may_ask image call ≡ true
IsAdmitted image (command.Commit how) = Unit {0}

-- a routine's name without the zeros after it
abbrev pub name_text : Routine → List ℕ
name_text routine = take (unwrap_or (text_end routine.name) 16) routine.name

-- the routine of that name
abbrev pub routine_named : Parts → List ℕ → Option ℕ
routine_named image name = position (λ routine. bytes_eq (name_text routine) name) image.routines

-- the numbers that the words write, if each writes one
abbrev pub numbers_of : List (List ℕ) → Option (List ℕ)
numbers_of [] = Some []
numbers_of (w ∷ ws) = option_and_then (λ n. option_map (λ ns. n ∷ ns) (numbers_of ws)) (number_of w)

-- at most eight numbers, and 0 for each that is missing
abbrev pub registers_of : List (List ℕ) → Option (List ℕ)
registers_of ws = if nat_le (length ws) 8 then option_map (λ ns. ns ++ replicate (8 - length ns) 0) (numbers_of ws) else None

-- the word names a block that is passed: it begins with `@`
abbrev pub names_block : List ℕ → Bool
names_block [] = false
names_block (b ∷ digits) = b == 64

-- the handle that a word writes after `@`
abbrev pub handle_of : List ℕ → Option ℕ
handle_of [] = None
handle_of (b ∷ digits) = if b == 64 then number_of digits else None

-- the words before the first one that names a block
abbrev pub before_blocks : List (List ℕ) → List (List ℕ)
before_blocks [] = []
before_blocks (w ∷ ws) = if names_block w then [] else w ∷ before_blocks ws

-- the first word that names a block, and the words after it
abbrev pub from_blocks : List (List ℕ) → List (List ℕ)
from_blocks [] = []
from_blocks (w ∷ ws) = if names_block w then w ∷ ws else from_blocks ws

-- the handle for a slot, and the words left: the first word gives
-- the handle if the slot is borrowed; otherwise the handle is 0
abbrev pub next_handle : SlotState → List (List ℕ) → Option (ℕ × List (List ℕ))
next_handle state ws = if is_own state then Some (0, ws) else elim ws [ [] ↦ None | w ∷ rest ↦ option_map (λ h. (h, rest)) (handle_of w) ]

-- the handles that words write, exactly one for each borrowed slot, in order; 0 for the other slots
abbrev pub placed : List SlotState → List (List ℕ) → Option (List ℕ)
placed [] [] = Some []
placed [] (w ∷ ws) = None
placed (state ∷ states) ws = option_and_then (λ next. option_map (λ hs. next.0 ∷ hs) (placed states next.1)) (next_handle state ws)

-- the call, if the machine admits it
abbrev pub if_admitted : Parts → Call → Option Call
if_admitted image call = if may_ask image call then Some call else None

-- the call of the routine with this name, with these numbers, followed by the blocks that it borrows
abbrev pub call_named : Parts → List ℕ → List (List ℕ) → Option Call
call_named image name ws =
    option_and_then (λ r. option_and_then
    (λ words. option_and_then (λ handles. if_admitted image (record { routine = r; words = words; handles = handles }))
    (placed (entry_slots image r) (from_blocks ws))) (registers_of (before_blocks ws))) (routine_named image name)

-- how a command commits, by its name
abbrev pub how_named : List ℕ → Option How
how_named word =
    if bytes_eq word (codes "update") then Some Update
    else if bytes_eq word (codes "save") then Some Save
    else if bytes_eq word (codes "revert") then Some Revert
    else None

-- the command of a line: `call`, a routine's name, numbers, then
-- blocks; or `update`, `save` or `revert` without arguments
abbrev pub command_of : Parts → List (List ℕ) → Option Command
command_of image [] = None
command_of image (word ∷ []) = option_map command.Commit (how_named word)
command_of image (word ∷ name ∷ numbers) = if bytes_eq word (codes "call") then option_map command.Call (call_named image name numbers) else None

-- the words of a line without its comment
abbrev pub said : List ℕ → List (List ℕ)
said line = words (without_comment line)

-- a line that is not empty, and is no command that the machine admits
abbrev pub is_bad : Parts → List ℕ → Bool
is_bad image line = not (is_empty (said line)) && is_none (command_of image (said line))

-- the number of the first bad line, from 1
abbrev pub first_bad : Parts → List (List ℕ) → Option ℕ
first_bad image lines = position_from (is_bad image) 1 lines

-- a command on the line of this number
abbrev pub on_line : ℕ → Command → Numbered
on_line n c = record { line = n; command = c }

-- the commands of lines, each with the number of its line, which are counted from n on
abbrev pub commands_from : Parts → ℕ → List (List ℕ) → List Numbered
commands_from image n [] = []
commands_from image n (line ∷ lines) = cons_option (option_map (on_line n) (command_of image (said line))) (commands_from image (n + 1) lines)

-- the commands of a script, each with the number of its line, from 1
abbrev pub commands_of : Parts → List (List ℕ) → List Numbered
commands_of image lines = commands_from image 1 lines

-- why the lines of a script are no commands
abbrev pub IsBadLine : Parts → List (List ℕ) → ScriptFault → Type 0
IsBadLine image lines (BadScript line) = first_bad image lines ≡ Some line
IsBadLine image lines Memory = Unit {0}
IsBadLine image lines _ = ⊥
