-- Scripts and calls whose outputs are printed in a form.
use Rattle.std.specs.Prelude.{◌≡◌, ◌⊎◌, ◌≤◌, ℕ, List, [], ◌∷◌, ◌++◌, length, Option, Some, None, Result, Err}
use Rattle.std.specs.Str.Lines.{lines}
use Rattle.std.specs.Io.KnownBytes.{Appends}
use Rattle.vm_file.specs.Device.{Medium}
use Rattle.geos_terms.specs.declared.refusal.Refusal.{Refusal}
use Rattle.geos_kernel.specs.View.{KernelOn}
use Rattle.geos_image.specs.Parts.{Parts}
use Rattle.geos_machine.specs.Runs.{Throughout}
use Rattle.geos_text.specs.Words.{most_bytes}
use Rattle.geos_input.specs.declared.fault.ScriptFault.{ScriptFault}
use Rattle.geos_input.specs.declared.fault.ScriptFault.TheVariants.{TooLong, BadHex, BadImage, Rejected, BadScript, Read, Write, Memory}
use Rattle.script_commands.specs.declared.call_fault.CallFault.{CallFault}
use Rattle.script_commands.specs.declared.call_fault.CallFault.TheVariants.{BadBlocks, BadWord, Script}
use Rattle.script_commands.specs.declared.form.Form.{Form}
use Rattle.script_commands.specs.declared.command.Call.{Call}
use Rattle.script_commands.specs.declared.command.Command.{Command}
use Rattle.script_commands.specs.declared.command.Command.TheVariants as command
use Rattle.geos_cli.specs.declared.script.Mode.{Mode}
use Rattle.geos_cli.specs.declared.script.Mode.TheVariants.{Lenient, Strict}
use Rattle.script_commands.specs.declared.command.Numbered.{Numbered}
use Rattle.geos_cli.specs.declared.script.RefusedCommand.{RefusedCommand}
use Rattle.geos_cli.specs.Calls.{Asks}
use Rattle.script_commands.specs.Forms.{shown_in}
use Rattle.script_commands.specs.Lines.{commands_of, on_line}
use Rattle.geos_cli.specs.Script.{From, GoesOn, LeadsOn, Loads, PrintsTo, RanCommand}

-- a command is carried out, from kernel to kernel, and comes to this result; this is what it prints plainly
abbrev pub RunsPlainly : {D : Type 0} → Medium D → Parts → Command → Result (Unit {0}) Refusal → KernelOn D → KernelOn D → List ℕ → Type 0
RunsPlainly medium image command result kernel later plain =
    RanCommand (medium.honest kernel.device) (Throughout medium kernel.device later.device) image command result
    kernel.core later.core (Some []) (Some plain)

-- and a writer got that in the form
abbrev pub RanShown : {D : Type 0} → Medium D → Form → Parts → Command → Result (Unit {0}) Refusal → KernelOn D
    → KernelOn D → Option (List ℕ) → Option (List ℕ) → Type 0
RanShown medium form image command result kernel later old new =
    (plain : List ℕ) × RunsPlainly medium image command result kernel later plain × Appends old new (shown_in form image command plain)

-- or a beginning of it
abbrev pub StoppedShown : {D : Type 0} → Medium D → Form → Parts → Command → KernelOn D → KernelOn D → Option (List ℕ) → Option (List ℕ) → Type 0
StoppedShown medium form image command kernel later old new =
    (result : Result (Unit {0}) Refusal) × (plain : List ℕ) × (part : List ℕ) × (rest : List ℕ)
    × RunsPlainly medium image command result kernel later plain × (shown_in form image command plain ≡ part ++ rest) × Appends old new part

-- the commands run one after another, each from the kernel that the one before left, and the script continues after
-- each. The text is what they print, in the form
abbrev pub RunsInForm : {D : Type 0} → Medium D → Form → Mode → Parts → List Numbered → KernelOn D → KernelOn D → List ℕ → Type 0
RunsInForm medium form mode image [] kernel later text = (later ≡ kernel) × (text ≡ [])
RunsInForm {D} medium form mode image (here ∷ commands) kernel later text =
    (between : KernelOn D)
    × (plain : List ℕ)
    × (others : List ℕ)
    × (result : Result (Unit {0}) Refusal)
    × RunsPlainly medium image here.command result kernel between plain
    × GoesOn mode result
    × RunsInForm medium form mode image commands between later others
    × (text ≡ shown_in form image here.command plain ++ others)

-- so some of them are, and the last one is refused, at this line and with this refusal; the others are not begun
pub record RefusesInForm {D : Type 0} (medium : Medium D) (form : Form) (mode : Mode) (image : Parts) (commands : List Numbered)
    (refused : RefusedCommand) (kernel later : KernelOn D) (text : List ℕ) : Type 0 where
  pub done : List Numbered
  pub last : Numbered
  pub others : List Numbered
  pub in_order : commands ≡ done ++ last ∷ others
  pub line : refused.line ≡ last.line
  pub between : KernelOn D
  pub earlier : List ℕ
  pub plain : List ℕ
  pub runs : RunsInForm medium form mode image done kernel between earlier
  pub refuses : RunsPlainly medium image last.command (Err refused.refusal) between later plain
  pub written : text ≡ earlier ++ shown_in form image last.command plain

-- the commands run, all or up to this refused command, as the mode allows
abbrev pub RunsTo : {D : Type 0} → Medium D → Form → Mode → Parts → List Numbered → Option RefusedCommand → KernelOn D → KernelOn D → List ℕ → Type 0
RunsTo medium form mode image commands None kernel later text = RunsInForm medium form mode image commands kernel later text
RunsTo medium form mode image commands (Some refused) kernel later text = (mode ≡ Strict)
    × RefusesInForm medium form mode image commands refused kernel later text

-- a command was not begun; or it was carried out, and the text is a beginning of what it prints in the form
abbrev pub EndsAt : {D : Type 0} → Medium D → Form → Parts → Command → KernelOn D → KernelOn D → List ℕ → Type 0
EndsAt medium form image command kernel later text =
    ((later ≡ kernel) × (text ≡ []))
    ⊎ ((result : Result (Unit {0}) Refusal) × (plain : List ℕ) × (rest : List ℕ)
    × RunsPlainly medium image command result kernel later plain × (shown_in form image command plain ≡ text ++ rest))

-- and a writer got the text
abbrev pub StoppedNext : {D : Type 0} → Medium D → Form → Parts → Command → KernelOn D → KernelOn D → Option (List ℕ) → Option (List ℕ) → Type 0
StoppedNext medium form image command kernel later old new =
    (text : List ℕ) × EndsAt medium form image command kernel later text × Appends old new text

-- some of the commands were carried out, and the text has all that they print in the form; the next one was not begun, or the text ends
-- with a beginning of what it prints; the others were not begun
pub record StopsInForm {D : Type 0} (medium : Medium D) (form : Form) (mode : Mode) (image : Parts) (commands : List Numbered)
    (kernel later : KernelOn D) (text : List ℕ) : Type 0 where
  pub done : List Numbered
  pub next : Numbered
  pub others : List Numbered
  pub in_order : commands ≡ done ++ next ∷ others
  pub between : KernelOn D
  pub earlier : List ℕ
  pub part : List ℕ
  pub runs : RunsInForm medium form mode image done kernel between earlier
  pub ends : EndsAt medium form image next.command between later part
  pub written : text ≡ earlier ++ part

-- the commands lead from the one kernel to the other, all or up to this refused one, and print this text in the plain
-- form. If the program stops at any moment in between, `open` finds the committed pair of some state of the model's
-- run
abbrev pub LeadsTo : {D : Type 0} → Medium D → Mode → Parts → List Numbered → Option RefusedCommand → KernelOn D → KernelOn D → Type 0
LeadsTo medium mode image commands refused kernel later =
    (plain : List ℕ)
    × LeadsOn medium kernel later (λ allows before after keeps. From (PrintsTo mode allows image commands refused before after plain) before keeps)

-- so do the first of them, those that were carried out, whatever each came to
abbrev pub LeadsPart : {D : Type 0} → Medium D → Parts → List Numbered → KernelOn D → KernelOn D → Type 0
LeadsPart medium image commands kernel later =
    (done : List Numbered) × (others : List Numbered) × (commands ≡ done ++ others) × LeadsTo medium Lenient image done None kernel later

-- commands ran, a writer got their text, and this is what a stop meanwhile leaves
abbrev pub RanInForm : {D : Type 0} → Medium D → Form → Mode → Parts → List Numbered → Option RefusedCommand → KernelOn D
    → KernelOn D → Option (List ℕ) → Option (List ℕ) → Type 0
RanInForm medium form mode image commands refused kernel later old new =
    (text : List ℕ) × RunsTo medium form mode image commands refused kernel later text × Appends old new text
    × LeadsTo medium mode image commands refused kernel later

-- commands were stopped, a writer got their text up to there, and this is what a stop meanwhile leaves
abbrev pub StoppedInForm : {D : Type 0} → Medium D → Form → Mode → Parts → List Numbered → KernelOn D → KernelOn D
    → Option (List ℕ) → Option (List ℕ) → Type 0
StoppedInForm medium form mode image commands kernel later old new =
    (text : List ℕ) × StopsInForm medium form mode image commands kernel later text × Appends old new text
    × LeadsPart medium image commands kernel later

-- a script ran on the image that the bytes encode, to its end or to this refused command, and a writer got its text
abbrev pub RanScriptInForm : {D : Type 0} → Medium D → Form → Mode → List ℕ → List ℕ → Option RefusedCommand → KernelOn D
    → KernelOn D → Option (List ℕ) → Option (List ℕ) → Type 0
RanScriptInForm medium form mode bytes script refused kernel later old new =
    (image : Parts) × (length script ≤ most_bytes) × Loads bytes (lines script) image
    × RanInForm medium form mode image (commands_of image (lines script)) refused kernel later old new

-- it was stopped
abbrev pub StoppedScriptInForm : {D : Type 0} → Medium D → Form → Mode → List ℕ → List ℕ → KernelOn D → KernelOn D
    → Option (List ℕ) → Option (List ℕ) → Type 0
StoppedScriptInForm medium form mode bytes script kernel later old new =
    (image : Parts) × (length script ≤ most_bytes) × Loads bytes (lines script) image
    × StoppedInForm medium form mode image (commands_of image (lines script)) kernel later old new

-- the call that the words name ran, or was refused, on the image that the bytes encode, and a writer got its text
abbrev pub RanCallInForm : {D : Type 0} → Medium D → Form → List ℕ → List ℕ → List (List ℕ) → Option RefusedCommand → KernelOn D → KernelOn D
    → Option (List ℕ) → Option (List ℕ) → Type 0
RanCallInForm medium form bytes name words refused kernel later old new =
    (image : Parts) × (call : Call) × Asks bytes name words image call
    × RanInForm medium form Strict image (on_line 1 (command.Call call) ∷ []) refused kernel later old new

-- it was stopped
abbrev pub StoppedCallInForm : {D : Type 0} → Medium D → Form → List ℕ → List ℕ → List (List ℕ) → KernelOn D → KernelOn D
    → Option (List ℕ) → Option (List ℕ) → Type 0
StoppedCallInForm medium form bytes name words kernel later old new =
    (image : Parts) × (call : Call) × Asks bytes name words image call
    × StoppedInForm medium form Strict image (on_line 1 (command.Call call) ∷ []) kernel later old new

-- what a fault leaves: everything as it was (`kept`); or, after a failed write or a refused allocation, the effects
-- of some commands (`stopped`)
abbrev pub Leaves : ScriptFault → Type 0 → Type 0 → Type 0
Leaves Write kept stopped = stopped
Leaves Memory kept stopped = kept ⊎ stopped
Leaves TooLong kept stopped = kept
Leaves (BadHex line) kept stopped = kept
Leaves (BadImage at) kept stopped = kept
Leaves (Rejected pc rule) kept stopped = kept
Leaves (BadScript line) kept stopped = kept
Leaves Read kept stopped = kept

-- the same of a call, by its fault
abbrev pub LeavesCall : CallFault → Type 0 → Type 0 → Type 0
LeavesCall (BadWord at) kept stopped = kept
LeavesCall (BadBlocks n) kept stopped = kept
LeavesCall (Script fault) kept stopped = Leaves fault kept stopped
