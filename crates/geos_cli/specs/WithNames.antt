-- Scripts whose lines contain names for words that earlier calls printed.
use Rattle.std.specs.Prelude.{◌≡◌, ◌<◌, ◌≤◌, ◌⊎◌, ℕ, List, [], ◌∷◌, ◌++◌, length, Option, Some, None, Result, Ok, Err}
use Rattle.std.specs.Io.KnownBytes.{Appends}
use Rattle.vm_file.specs.Device.{Medium}
use Rattle.geos_calls.specs.VmFile.{Kept}
use Rattle.geos_terms.specs.declared.refusal.Refusal.{Refusal}
use Rattle.geos_kernel.specs.View.{KernelOn}
use Rattle.geos_image.specs.Parts.{Parts}
use Rattle.geos_image.specs.Reading.{image_at}
use Rattle.geos_verify.specs.Rules.{Accepted, FirstRefusal}
use Rattle.geos_text.specs.Words.{most_bytes}
use Rattle.geos_input.specs.declared.fault.ScriptFault.{ScriptFault}
use Rattle.geos_input.specs.declared.fault.ScriptFault.TheVariants.{TooLong, BadHex, BadImage, Rejected, BadScript, Read, Write, Memory}
use Rattle.script_commands.specs.declared.form.Form.{Form}
use Rattle.script_commands.specs.declared.command.Command.{Command}
use Rattle.geos_cli.specs.declared.script.Mode.{Mode}
use Rattle.geos_cli.specs.declared.script.Mode.TheVariants.{Strict}
use Rattle.geos_cli.specs.declared.script.RefusedCommand.{RefusedCommand}
use Rattle.geos_cli.specs.declared.with_names.EarlyEnd.{EarlyEnd}
use Rattle.geos_cli.specs.declared.with_names.EarlyEnd.TheVariants.{Refused, BadLine}
use Rattle.script_commands.specs.Forms.{shown_in}
use Rattle.geos_cli.specs.InForm.{EndsAt, RunsPlainly}
use Rattle.script_commands.specs.Names.{Names, Said, command_in, first_bad_in, first_put_out, lines_said, names_behind}
use Rattle.geos_cli.specs.Script.{Allows, Does, From, GoesOn, LeadsOn, Stage}

-- a command ran from kernel to kernel, returned this result, and printed this word first, or none; a writer got its
-- text in the form
abbrev pub RanNoting : {D : Type 0} → Medium D → Form → Parts → Command → Result (Unit {0}) Refusal → Option ℕ
    → KernelOn D → KernelOn D → Option (List ℕ) → Option (List ℕ) → Type 0
RanNoting medium form image command result word kernel later old new =
    (plain : List ℕ) × RunsPlainly medium image command result kernel later plain × (word ≡ first_put_out plain)
    × Appends old new (shown_in form image command plain)

-- the lines run one after another, each from the kernel and the names that the one before left, and the script
-- continues after each. A line is the command of this line with its names replaced by numbers. The text is what they
-- print, in the form
abbrev pub RunsLines : {D : Type 0} → Medium D → Form → Mode → Parts → List Said → Names → KernelOn D → Names → KernelOn D → List ℕ → Type 0
RunsLines medium form mode image [] names kernel left later text = (left ≡ names) × (later ≡ kernel) × (text ≡ [])
RunsLines {D} medium form mode image (line ∷ lines) names kernel left later text =
    (command : Command)
    × (between : KernelOn D)
    × (plain : List ℕ)
    × (others : List ℕ)
    × (result : Result (Unit {0}) Refusal)
    × (command_in image names line.words ≡ Some command)
    × RunsPlainly medium image command result kernel between plain
    × GoesOn mode result
    × RunsLines medium form mode image lines (names_behind names line.words (first_put_out plain)) between left later others
    × (text ≡ shown_in form image command plain ++ others)

-- some of the lines are done, starting without names, and this one is next
pub record ComesTo {D : Type 0} (medium : Medium D) (form : Form) (mode : Mode) (image : Parts) (lines : List Said)
    (kernel : KernelOn D) (names : Names) (later : KernelOn D) (text : List ℕ) (next : Said) : Type 0 where
  pub done : List Said
  pub others : List Said
  pub in_order : lines ≡ done ++ next ∷ others
  pub runs : RunsLines medium form mode image done [] kernel names later text

-- the next line is carried out, and it is refused, at this line and with this refusal; the others are not begun
pub record RefusesLine {D : Type 0} (medium : Medium D) (form : Form) (mode : Mode) (image : Parts) (lines : List Said)
    (refused : RefusedCommand) (kernel later : KernelOn D) (text : List ℕ) : Type 0 where
  pub names : Names
  pub between : KernelOn D
  pub earlier : List ℕ
  pub next : Said
  pub comes : ComesTo medium form mode image lines kernel names between earlier next
  pub line : refused.line ≡ next.number
  pub command : Command
  pub named : command_in image names next.words ≡ Some command
  pub plain : List ℕ
  pub refuses : RunsPlainly medium image command (Err refused.refusal) between later plain
  pub written : text ≡ earlier ++ shown_in form image command plain

-- the next line is no command with the numbers that its names stand for, and is not begun, nor the others
abbrev pub EndsBadly : {D : Type 0} → Medium D → Form → Mode → Parts → List Said → ℕ → KernelOn D → KernelOn D → List ℕ → Type 0
EndsBadly medium form mode image lines n kernel later text =
    (names : Names) × (next : Said) × ComesTo medium form mode image lines kernel names later text next × (n ≡ next.number)
    × (command_in image names next.words ≡ None)

-- lines are carried out: all of them, or up to this end
abbrev pub RunsLinesTo : {D : Type 0} → Medium D → Form → Mode → Parts → List Said → Option EarlyEnd → KernelOn D → KernelOn D → List ℕ → Type 0
RunsLinesTo medium form mode image lines None kernel later text = (names : Names) × RunsLines medium form mode image lines [] kernel names later text
RunsLinesTo medium form mode image lines (Some (Refused refused)) kernel later text = (mode ≡ Strict)
    × RefusesLine medium form mode image lines refused kernel later text
RunsLinesTo medium form mode image lines (Some (BadLine n)) kernel later text = EndsBadly medium form mode image lines n kernel later text

-- the writer failed, or memory was refused: some lines are done; the next one has not begun, or it ran and the text
-- ends with a part of its output; the others have not begun
pub record StopsLines {D : Type 0} (medium : Medium D) (form : Form) (mode : Mode) (image : Parts) (lines : List Said)
    (kernel later : KernelOn D) (text : List ℕ) : Type 0 where
  pub names : Names
  pub between : KernelOn D
  pub earlier : List ℕ
  pub next : Said
  pub comes : ComesTo medium form mode image lines kernel names between earlier next
  pub part : List ℕ
  pub ends : ((later ≡ between) × (part ≡ [])) ⊎ ((command : Command) × (command_in image names next.words ≡ Some command)
      × EndsAt medium form image command between later part)
  pub written : text ≡ earlier ++ part

-- lines lead from stage to stage, and from names to names, each from where the one before ended. A line does what the
-- command of the same line does, with numbers in the place of names; `keeps` lists the committed pair of each state
-- in between
abbrev pub DoesLines : Allows → Parts → List Said → Names → Names → Stage → Stage → List Kept → Type 0
DoesLines allows image [] names left before after keeps = (left ≡ names) × (after ≡ before) × (keeps ≡ [])
DoesLines allows image (line ∷ lines) names left before after keeps =
    (command : Command)
    × (between : Stage)
    × (plain : List ℕ)
    × (own : List Kept)
    × (rest : List Kept)
    × (result : Result (Unit {0}) Refusal)
    × (command_in image names line.words ≡ Some command)
    × Does allows image command result before between plain own
    × DoesLines allows image lines (names_behind names line.words (first_put_out plain)) left between after rest
    × (keeps ≡ own ++ rest)

-- the lines lead from the one kernel to the other, and from no names to these. If the program stops at any moment in
-- between, `open` finds the committed pair of some state of the model's run
abbrev pub LeadsLines : {D : Type 0} → Medium D → Parts → List Said → Names → KernelOn D → KernelOn D → Type 0
LeadsLines medium image lines left kernel later =
    LeadsOn medium kernel later (λ allows before after keeps. From (DoesLines allows image lines [] left before after) before keeps)

-- the first lines do, whatever their results
abbrev pub LeadsFirst : {D : Type 0} → Medium D → Parts → List Said → KernelOn D → KernelOn D → Type 0
LeadsFirst medium image lines kernel later =
    (names : Names) × (done : List Said) × (others : List Said) × (lines ≡ done ++ others) × LeadsLines medium image done names kernel later

-- all of them do, or the first ones if the script ended before the last one
abbrev pub LeadsLinesTo : {D : Type 0} → Medium D → Parts → List Said → Option EarlyEnd → KernelOn D → KernelOn D → Type 0
LeadsLinesTo medium image lines None kernel later = (names : Names) × LeadsLines medium image lines names kernel later
LeadsLinesTo medium image lines (Some end) kernel later = LeadsFirst medium image lines kernel later

-- lines ran, a writer got their text, and this is what a stop meanwhile leaves
abbrev pub RanLines : {D : Type 0} → Medium D → Form → Mode → Parts → List Said → Option EarlyEnd → KernelOn D
    → KernelOn D → Option (List ℕ) → Option (List ℕ) → Type 0
RanLines medium form mode image lines end kernel later old new =
    (text : List ℕ) × RunsLinesTo medium form mode image lines end kernel later text × Appends old new text
    × LeadsLinesTo medium image lines end kernel later

-- lines were stopped, a writer got their text up to there, and this is what a stop meanwhile leaves
abbrev pub StoppedLines : {D : Type 0} → Medium D → Form → Mode → Parts → List Said → KernelOn D → KernelOn D
    → Option (List ℕ) → Option (List ℕ) → Type 0
StoppedLines medium form mode image lines kernel later old new =
    (text : List ℕ) × StopsLines medium form mode image lines kernel later text × Appends old new text
    × LeadsFirst medium image lines kernel later

-- lines are those of a script that say something, and none is bad, whatever numbers their names will stand for
abbrev pub IsGood : Parts → List ℕ → List Said → Type 0
IsGood image script lines = (lines ≡ lines_said script) × (first_bad_in image [] (lines_said script) ≡ None)

-- why a script has no such lines
abbrev pub IsBadNamed : Parts → List ℕ → ScriptFault → Type 0
IsBadNamed image script (BadScript line) = first_bad_in image [] (lines_said script) ≡ Some line
IsBadNamed image script Memory = Unit {0}
IsBadNamed image script _ = ⊥

-- the bytes encode an image that the verifier accepts, and no line of the script is bad, whatever numbers replace its
-- names
pub record LoadsNamed (bytes script : List ℕ) (image : Parts) : Type 0 where
  pub short : length script ≤ most_bytes
  pub read : image_at bytes ≡ Ok image
  pub accepted : Accepted image
  pub good : first_bad_in image [] (lines_said script) ≡ None

-- a script ran on the image that the bytes encode, to its end or to this early end, and a writer got its text
abbrev pub RanNamedScript : {D : Type 0} → Medium D → Form → Mode → List ℕ → List ℕ → Option EarlyEnd → KernelOn D
    → KernelOn D → Option (List ℕ) → Option (List ℕ) → Type 0
RanNamedScript medium form mode bytes script end kernel later old new =
    (image : Parts) × LoadsNamed bytes script image × RanLines medium form mode image (lines_said script) end kernel later old new

-- it was stopped
abbrev pub StoppedNamedScript : {D : Type 0} → Medium D → Form → Mode → List ℕ → List ℕ → KernelOn D → KernelOn D
    → Option (List ℕ) → Option (List ℕ) → Type 0
StoppedNamedScript medium form mode bytes script kernel later old new =
    (image : Parts) × LoadsNamed bytes script image × StoppedLines medium form mode image (lines_said script) kernel later old new

-- when such a script ends with each fault; the program checks for them in this order
abbrev pub NamedScriptEndsBy : List ℕ → List ℕ → ScriptFault → Type 0
NamedScriptEndsBy bytes script TooLong = most_bytes < length script
NamedScriptEndsBy bytes script (BadImage at) = (length script ≤ most_bytes) × (image_at bytes ≡ Err at)
NamedScriptEndsBy bytes script (Rejected pc rule) =
    (length script ≤ most_bytes) × ((image : Parts) × (image_at bytes ≡ Ok image) × FirstRefusal image (record { pc = pc; rule = rule }))
NamedScriptEndsBy bytes script (BadScript line) =
    (length script ≤ most_bytes) × ((image : Parts) × (image_at bytes ≡ Ok image) × Accepted image
    × (first_bad_in image [] (lines_said script) ≡ Some line))
NamedScriptEndsBy bytes script Write = (image : Parts) × LoadsNamed bytes script image
NamedScriptEndsBy bytes script Memory = length script ≤ most_bytes
NamedScriptEndsBy bytes script (BadHex line) = ⊥
NamedScriptEndsBy bytes script Read = ⊥
