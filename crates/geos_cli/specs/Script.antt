-- When a script ends early, and what it prints.
use Rattle.std.specs.Prelude.{◌≡◌, ◌<◌, ◌≤◌, ◌⊎◌, ℕ, ◌+◌, true}
use Rattle.std.specs.Prelude.{List, [], ◌∷◌, ◌++◌, length}
use Rattle.std.specs.Prelude.{Option, Some, None, Result, Ok, Err}
use Rattle.std.specs.Str.Lines.{lines}
use Rattle.std.specs.Io.KnownBytes.{Appends}
use Rattle.geos_calls.specs.VmFile.{Kept, VmFile}
use Rattle.geos_terms.specs.declared.refusal.Refusal.{Refusal}
use Rattle.geos_calls.specs.Effects.{Choice, outcome, effect_of}
use Rattle.geos_calls.specs.VmCalls.{commit}
use Rattle.vm_blocks.specs.ListedCalls.{keeper_of}
use Rattle.vm_file.specs.Device.{Medium}
use Rattle.geos_kernel.specs.View.{KernelOn, KernelState, IsFileOf}
use Rattle.geos_kernel.specs.Kernel.{NeverFell}
use Rattle.geos_image.specs.Parts.{Parts}
use Rattle.geos_image.specs.Reading.{image_at}
use Rattle.geos_verify.specs.Rules.{Accepted, FirstRefusal}
use Rattle.geos_machine.specs.declared.outcome.Outcome.{Outcome}
use Rattle.geos_machine.specs.Runs.{begin, kept_along, OpensAsOneOf, Ran, Throughout, Within}
use Rattle.granted_runs.specs.Keeps.{SparesDenied}
use Rattle.geos_text.specs.Words.{most_bytes}
use Rattle.script_commands.specs.declared.command.Call.{Call}
use Rattle.script_commands.specs.declared.command.Command.{Command}
use Rattle.script_commands.specs.declared.command.Command.TheVariants as command
use Rattle.geos_cli.specs.declared.script.Mode.{Mode}
use Rattle.geos_cli.specs.declared.script.Mode.TheVariants.{Lenient, Strict}
use Rattle.script_commands.specs.declared.command.Numbered.{Numbered}
use Rattle.geos_cli.specs.declared.script.RefusedCommand.{RefusedCommand}
use Rattle.script_commands.specs.Lent.{lent_by}
use Rattle.script_commands.specs.Lines.{commands_of, first_bad}
use Rattle.script_commands.specs.Outputs.{committed, printed}
use Rattle.script_commands.specs.MayCommit.{is_flush_due}
pub use Rattle.geos_cli.specs.Stages.{LockedMore, Stage, stage_of, Allows, IsAllowed, Way, Comes, Then, Stays, LocksOne, NotLocked, MarksOne, UnlocksOne, LockedBehind, UnlockedBehind, Locks, Unlocks, once, times}
use Rattle.geos_input.specs.declared.fault.ScriptFault.{ScriptFault}
use Rattle.geos_input.specs.declared.fault.ScriptFault.TheVariants.{TooLong, BadHex, BadImage, Rejected, BadScript, Read, Write, Memory}

-- the routine of a call runs on the blocks that it is lent, and this is what it prints; what it was not granted is as before, whatever was
abbrev pub RunsOn : Allows → Parts → Call → List ℕ → Stage → Stage → List Kept → Type 0
RunsOn allows image call text before after keeps =
    (outcome : Outcome)
    × (ran : Ran (allows before.failed after.failed) image call.routine call.words call.handles before.memory after.memory outcome)
    × (text ≡ printed outcome.output.items)
    × (keeps ≡ kept_along image ran.choices (begin image call.routine call.words call.handles before.memory))
    × SparesDenied image call.routine call.words call.handles before.memory ran.choices ran.last

-- the blocks that a call lends are locked, its routine runs, and they are unlocked
abbrev pub RunsLent : Allows → Parts → Call → List ℕ → Stage → Stage → List Kept → Type 0
RunsLent allows image call text = Then (Then (Locks allows (lent_by image call)) (RunsOn allows image call text))
    (Unlocks allows (lent_by image call))

-- one of the blocks is refused: those before it are unlocked again, and no routine runs
pub record NotLent (allows : Allows) (handles : List ℕ) (why : Refusal) (before after : Stage) (keeps : List Kept) : Type 0 where
  pub locked : List ℕ
  pub refused : ℕ
  pub others : List ℕ
  pub in_order : handles ≡ locked ++ refused ∷ others
  pub does : Then (Then (Locks allows locked) (NotLocked allows refused why)) (Unlocks allows locked) before after keeps

-- a command takes one memory to another under allowed choices, returns this result, and prints this text.
-- A call locks the blocks that it lends, runs the model, prints its output, and unlocks the blocks; or a lock is
-- refused, which is its result. A commit is a step of its row in the table of calls; it prints nothing but its
-- refusal. `keeps` lists the committed pair of each state in between
abbrev pub Does : Allows → Parts → Command → Result (Unit {0}) Refusal → Stage → Stage → List ℕ → List Kept → Type 0
Does allows image (command.Call call) result before after text keeps =
    ((result ≡ Ok tt) × RunsLent allows image call text before after keeps)
    ⊎ ((why : Refusal) × (result ≡ Err why) × (text ≡ committed (Err why)) × NotLent allows (lent_by image call) why before after keeps)
Does allows image (command.Commit how) result before after text keeps =
    (choice : Choice)
    × allows before.failed after.failed choice
    × (outcome (effect_of (commit (keeper_of how)) choice before.memory) ≡ (result, after.memory))
    × (text ≡ committed result)
    × (keeps ≡ before.memory.file.kept ∷ after.memory.file.kept ∷ [])

-- a script continues after a command with this result: a strict one only if it was not refused
abbrev pub GoesOn : Mode → Result (Unit {0}) Refusal → Type 0
GoesOn Lenient result = Unit {0}
GoesOn Strict result = result ≡ Ok tt

-- what the commands print, and the committed pair of each state from the one stage to the other: each command starts
-- where the one before ended, and the script continues after each
abbrev pub Prints : Mode → Allows → Parts → List Numbered → Stage → Stage → List ℕ → List Kept → Type 0
Prints mode allows image [] before after text keeps = (text ≡ []) × (after ≡ before) × (keeps ≡ [])
Prints mode allows image (here ∷ commands) before after text keeps =
    (between : Stage)
    × (shown : List ℕ)
    × (others : List ℕ)
    × (own : List Kept)
    × (rest : List Kept)
    × (result : Result (Unit {0}) Refusal)
    × Does allows image here.command result before between shown own
    × GoesOn mode result
    × Prints mode allows image commands between after others rest
    × (text ≡ shown ++ others)
    × (keeps ≡ own ++ rest)

-- what the commands have printed if one was refused, at this line and with this refusal, and ends the script. The
-- commands before it are done, and the script continued after each; the refused one prints its refusal; the others
-- have not begun
pub record PrintsRefused (mode : Mode) (allows : Allows) (image : Parts) (commands : List Numbered) (refused : RefusedCommand)
    (before after : Stage) (text : List ℕ) (keeps : List Kept) : Type 0 where
  pub done : List Numbered
  pub last : Numbered
  pub others : List Numbered
  pub in_order : commands ≡ done ++ last ∷ others
  pub line : refused.line ≡ last.line
  pub between : Stage
  pub earlier : List ℕ
  pub own : List ℕ
  pub kept_earlier : List Kept
  pub kept_last : List Kept
  pub printed_earlier : Prints mode allows image done before between earlier kept_earlier
  pub does : Does allows image last.command (Err refused.refusal) between after own kept_last
  pub written : text ≡ earlier ++ own
  pub kept : keeps ≡ kept_earlier ++ kept_last

-- what the commands of a script have printed when it ends: after the last one, or after a refused one
abbrev pub PrintsTo : Mode → Allows → Parts → List Numbered → Option RefusedCommand → Stage → Stage → List ℕ → List Kept → Type 0
PrintsTo mode allows image commands None before after text keeps = Prints mode allows image commands before after text keeps
PrintsTo mode allows image commands (Some refused) before after text keeps = PrintsRefused mode allows image commands refused before after text keeps

-- what the commands have printed when a write fails: some are done, with all that they print; the next one ran from
-- there, and only a part of its output is written; the others have not begun
pub record PrintsPart (mode : Mode) (allows : Allows) (image : Parts) (commands : List Numbered) (before after : Stage)
    (text : List ℕ) (keeps : List Kept) : Type 0 where
  pub done : List Numbered
  pub last : Numbered
  pub others : List Numbered
  pub in_order : commands ≡ done ++ last ∷ others
  pub between : Stage
  pub earlier : List ℕ
  pub kept_earlier : List Kept
  pub kept_last : List Kept
  pub printed_earlier : Prints mode allows image done before between earlier kept_earlier
  pub part : List ℕ
  pub rest : List ℕ
  pub result : Result (Unit {0}) Refusal
  pub does : Does allows image last.command result between after (part ++ rest) kept_last
  pub not_all : 0 < length rest
  pub written : text ≡ earlier ++ part
  pub kept : keeps ≡ kept_earlier ++ kept_last

-- what the commands have printed when a flush fails: some are done, with all that they print; the next one, which
-- requires a flush first, has not begun, nor have the others
pub record PrintsAhead (mode : Mode) (allows : Allows) (image : Parts) (commands : List Numbered) (before after : Stage)
    (text : List ℕ) (keeps : List Kept) : Type 0 where
  pub done : List Numbered
  pub next : Numbered
  pub others : List Numbered
  pub in_order : commands ≡ done ++ next ∷ others
  pub due : is_flush_due image done next.command ≡ true
  pub printed_all : Prints mode allows image done before after text keeps

-- what the commands have printed when the writer fails, at a write or at a flush
abbrev pub PrintsUpTo : Mode → Allows → Parts → List Numbered → Stage → Stage → List ℕ → List Kept → Type 0
PrintsUpTo mode allows image commands before after text keeps =
    PrintsPart mode allows image commands before after text keeps ⊎ PrintsAhead mode allows image commands before after text keeps

-- from a kernel with this VM file, `this` leads to another kernel, with a VM file that the model may know then; and
-- if the program stops in between, `open` finds the committed pair of one of the states
pub record LeadsFrom (honest : Type 0) (within : Within) (kernel later : KernelState) (this : Stage → Stage → List Kept → Type 0)
    (f : VmFile) : Type 0 where
  pub file : VmFile
  pub tied : IsFileOf honest later file
  pub lasts : NeverFell honest kernel later
  pub keeps : List Kept
  pub does : this (stage_of kernel f) (stage_of later file) keeps
  pub stops : honest → within (OpensAsOneOf keeps)

-- the same for every VM file that the model may know with the kernel; `honest` says that the kernel's device is
abbrev pub Leads : Type 0 → Within → KernelState → KernelState → (Stage → Stage → List Kept → Type 0) → Type 0
Leads honest within kernel later this = (f : VmFile) → IsFileOf honest kernel f → LeadsFrom honest within kernel later this f

-- the same over a device, with what is allowed of one as honest as this one
abbrev pub LeadsOn : {D : Type 0} → Medium D → KernelOn D → KernelOn D → (Allows → Way) → Type 0
LeadsOn medium old new way = Leads (medium.honest old.device) (Throughout medium old.device new.device) old.core new.core
    (way (IsAllowed (medium.honest old.device)))

-- the committed pair at the start, then these
abbrev pub From : (List Kept → Type 0) → Stage → List Kept → Type 0
From this before keeps = (rest : List Kept) × this rest × (keeps ≡ before.memory.file.kept ∷ rest)

-- a command was carried out, from kernel to kernel, came to this result, and a writer got its text
abbrev pub RanCommand : Type 0 → Within → Parts → Command → Result (Unit {0}) Refusal → KernelState → KernelState
    → Option (List ℕ) → Option (List ℕ) → Type 0
RanCommand honest within image command result kernel later old new =
    (text : List ℕ)
    × Leads honest within kernel later (λ before after keeps. Does (IsAllowed honest) image command result before after text keeps)
    × Appends old new text

-- a command was carried out, and a writer failed that got a beginning of its text, not all
abbrev pub StoppedCommand : Type 0 → Within → Parts → Command → KernelState → KernelState → Option (List ℕ) → Option (List ℕ) → Type 0
StoppedCommand honest within image command kernel later old new =
    (part : List ℕ) × (rest : List ℕ) × (result : Result (Unit {0}) Refusal) × (0 < length rest)
    × Leads honest within kernel later (λ before after keeps. Does (IsAllowed honest) image command result before after (part ++ rest) keeps)
    × Appends old new part

-- the commands were carried out, from kernel to kernel, all or up to this refused one, and a writer
-- got their text
abbrev pub RanCommands : Mode → Type 0 → Within → Parts → List Numbered → Option RefusedCommand → KernelState
    → KernelState → Option (List ℕ) → Option (List ℕ) → Type 0
RanCommands mode honest within image commands refused kernel later old new =
    (text : List ℕ)
    × Leads honest within kernel later
    (λ before after keeps. From (PrintsTo mode (IsAllowed honest) image commands refused before after text) before keeps)
    × Appends old new text

-- the commands were stopped by a writer that failed, which got the text up to there
abbrev pub StoppedCommands : Mode → Type 0 → Within → Parts → List Numbered → KernelState → KernelState → Option (List ℕ) → Option (List ℕ) → Type 0
StoppedCommands mode honest within image commands kernel later old new =
    (text : List ℕ)
    × Leads honest within kernel later (λ before after keeps. From (PrintsUpTo mode (IsAllowed honest) image commands before after text) before keeps)
    × Appends old new text

-- the bytes encode an image that the verifier accepts, and no line of the script is bad
pub record Loads (bytes : List ℕ) (lines : List (List ℕ)) (image : Parts) : Type 0 where
  pub read : image_at bytes ≡ Ok image
  pub accepted : Accepted image
  pub good : first_bad image lines ≡ None

-- why bytes are no image that may run
abbrev pub IsBadImage : List ℕ → ScriptFault → Type 0
IsBadImage bytes (BadImage at) = image_at bytes ≡ Err at
IsBadImage bytes (Rejected pc rule) = (image : Parts) × (image_at bytes ≡ Ok image) × FirstRefusal image (record { pc = pc; rule = rule })
IsBadImage bytes Memory = Unit {0}
IsBadImage bytes _ = ⊥

-- a script of these lines runs on the image that the bytes encode, from stage to stage, to its end or to this refused
-- command, and prints the text
abbrev pub Runs : Mode → Allows → List ℕ → List (List ℕ) → Option RefusedCommand → Stage → Stage → List ℕ → List Kept → Type 0
Runs mode allows bytes lines refused before after text keeps =
    (image : Parts) × Loads bytes lines image × PrintsTo mode allows image (commands_of image lines) refused before after text keeps

-- a script of these lines runs on the image that the bytes encode; when the writer fails, it is at stage `after` and
-- has printed the text
abbrev pub Stops : Mode → Allows → List ℕ → List (List ℕ) → Stage → Stage → List ℕ → List Kept → Type 0
Stops mode allows bytes lines before after text keeps =
    (image : Parts) × Loads bytes lines image × PrintsUpTo mode allows image (commands_of image lines) before after text keeps

-- when such a script ends with each fault; the program checks for them in this order
abbrev pub EndsBy : List ℕ → List (List ℕ) → ScriptFault → Type 0
EndsBy bytes lines (BadImage at) = image_at bytes ≡ Err at
EndsBy bytes lines (Rejected pc rule) = (image : Parts) × (image_at bytes ≡ Ok image) × FirstRefusal image (record { pc = pc; rule = rule })
EndsBy bytes lines (BadScript line) = (image : Parts) × (image_at bytes ≡ Ok image) × Accepted image × (first_bad image lines ≡ Some line)
EndsBy bytes lines Write = (image : Parts) × Loads bytes lines image
EndsBy bytes lines Memory = Unit {0}
EndsBy bytes lines TooLong = ⊥
EndsBy bytes lines (BadHex line) = ⊥
EndsBy bytes lines Read = ⊥

-- the script runs on the image that the bytes encode, from stage to stage, to its end or to this refused commit, and
-- prints the text
abbrev pub RunsScript : Mode → Allows → List ℕ → List ℕ → Option RefusedCommand → Stage → Stage → List ℕ → List Kept → Type 0
RunsScript mode allows bytes script refused before after text keeps =
    (length script ≤ most_bytes) × Runs mode allows bytes (lines script) refused before after text keeps

-- the script runs on the image that the bytes encode; when the writer fails, it is at stage `after` and has printed
-- the text
abbrev pub StopsScript : Mode → Allows → List ℕ → List ℕ → Stage → Stage → List ℕ → List Kept → Type 0
StopsScript mode allows bytes script before after text keeps = (length script ≤ most_bytes)
    × Stops mode allows bytes (lines script) before after text keeps

-- the script ran, from kernel to kernel, to its end or to this refused command, and a writer got its text
abbrev pub RanScript : Mode → Type 0 → Within → List ℕ → List ℕ → Option RefusedCommand → KernelState → KernelState
    → Option (List ℕ) → Option (List ℕ) → Type 0
RanScript mode honest within bytes script refused kernel later old new =
    (text : List ℕ)
    × Leads honest within kernel later
    (λ before after keeps. From (RunsScript mode (IsAllowed honest) bytes script refused before after text) before keeps)
    × Appends old new text

-- the script was stopped by a writer that failed, which got the text up to there
abbrev pub StoppedScript : Mode → Type 0 → Within → List ℕ → List ℕ → KernelState → KernelState → Option (List ℕ) → Option (List ℕ) → Type 0
StoppedScript mode honest within bytes script kernel later old new =
    (text : List ℕ)
    × Leads honest within kernel later (λ before after keeps. From (StopsScript mode (IsAllowed honest) bytes script before after text) before keeps)
    × Appends old new text

-- when a script ends with a fault; the program first checks whether it is too long
abbrev pub ScriptEndsBy : List ℕ → List ℕ → ScriptFault → Type 0
ScriptEndsBy bytes script TooLong = most_bytes < length script
ScriptEndsBy bytes script fault = (length script ≤ most_bytes) × EndsBy bytes (lines script) fault
