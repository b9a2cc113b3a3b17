-- What a session is, and when it ends early.
use Rattle.std.specs.Prelude.{◌≡◌, ◌<◌, ◌≤◌, ◌⊎◌, ℕ, false, List, [], length, replicate, Option, Some, None}
use Rattle.std.specs.Str.Lines.{lines}
use Rattle.std.specs.Io.KnownBytes.{Appends, Consumes}
use Rattle.geos_calls.specs.VmFile.{Kept, empty_file}
use Rattle.geos_calls.specs.Memory as model
use Rattle.geos_calls.specs.Effects.{Choice}
use Rattle.geos_input.specs.declared.fault.ScriptFault.{ScriptFault}
use Rattle.geos_input.specs.declared.fault.ScriptFault.TheVariants.{TooLong, BadHex, Read, Memory}
use Rattle.geos_input.specs.Hex.{hex_fault, image_bytes, script_lines}
use Rattle.geos_text.specs.Words.{most_bytes}
use Rattle.geos_input.specs.Reading.{Reads}
use Rattle.geos_cli.specs.declared.script.Mode.TheVariants.{Lenient}
use Rattle.geos_cli.specs.Script.{Runs, Stage, Stops, EndsBy}

-- the choices in a session: room and memory may be refused; the device is in memory, so it refuses nothing and
-- returns no wrong bytes
pub record IsInMemory (before now : ℕ) (choice : Choice) : Type 0 where
  pub device : choice.device ≡ false
  pub given : choice.given ≡ []

-- the memory in which a session begins: no block, in a region of 65,536 bytes, and an empty VM
-- file with an area of as many
abbrev pub no_blocks : model.Memory
no_blocks = record { blocks = replicate 1024 None; file = empty_file 65536; region = 65536; handles = 1024 }

-- the stage of its first command: the device has not failed
abbrev pub begun : Stage
begun = record { memory = no_blocks; failed = 0 }

-- the script in the lines after `end` runs on the image in the lines before it, and prints the text
abbrev pub RunsLines : List (List ℕ) → List ℕ → Type 0
RunsLines lines text = (after : Stage) × (keeps : List Kept) × Runs Lenient IsInMemory (image_bytes lines)
    (script_lines lines) None begun after text keeps

-- such a script has printed the text when the writer fails
abbrev pub StopsLines : List (List ℕ) → List ℕ → Type 0
StopsLines lines text = (after : Stage) × (keeps : List Kept) × Stops Lenient IsInMemory (image_bytes lines)
    (script_lines lines) begun after text keeps

-- the bytes are an image in digits, a line `end`, and a script that runs on the image and
-- prints the text
abbrev pub RunsSession : List ℕ → List ℕ → Type 0
RunsSession bytes text = (length bytes ≤ most_bytes) × (hex_fault (lines bytes) ≡ None) × RunsLines (lines bytes) text

-- the text that the script of these bytes has printed when the writer fails: a part of the output, or all of it if
-- the last flush failed
abbrev pub StopsSession : List ℕ → List ℕ → Type 0
StopsSession bytes text =
    (length bytes ≤ most_bytes) × (hex_fault (lines bytes) ≡ None) × (StopsLines (lines bytes) text ⊎ RunsLines (lines bytes) text)

-- a session of these bytes ran, and a writer got its text
abbrev pub RanBytes : List ℕ → Option (List ℕ) → Option (List ℕ) → Type 0
RanBytes bytes old new = (text : List ℕ) × RunsSession bytes text × Appends old new text

-- a session of these bytes was stopped by a writer that failed, which got the text up to there
abbrev pub StoppedBytes : List ℕ → Option (List ℕ) → Option (List ℕ) → Type 0
StoppedBytes bytes old new = (text : List ℕ) × StopsSession bytes text × Appends old new text

-- a reader gave a session, which ran, and a writer got its text
abbrev pub RanSession : Option (List ℕ) → Option (List ℕ) → Option (List ℕ) → Option (List ℕ) → Type 0
RanSession given left old new = (bytes text : List ℕ) × Reads given left bytes × RunsSession bytes text × Appends old new text

-- a reader gave a session, which was stopped by a writer that failed, and which got the text
-- up to there
abbrev pub StoppedSession : Option (List ℕ) → Option (List ℕ) → Option (List ℕ) → Option (List ℕ) → Type 0
StoppedSession given left old new = (bytes text : List ℕ) × Reads given left bytes × StopsSession bytes text × Appends old new text

-- when a session of these bytes ends with each fault; the program checks for them in this order
abbrev pub SessionEndsBy : List ℕ → ScriptFault → Type 0
SessionEndsBy bytes TooLong = most_bytes < length bytes
SessionEndsBy bytes (BadHex line) = (length bytes ≤ most_bytes) × (hex_fault (lines bytes) ≡ Some line)
SessionEndsBy bytes fault =
    (length bytes ≤ most_bytes) × (hex_fault (lines bytes) ≡ None) × EndsBy (image_bytes (lines bytes)) (script_lines (lines bytes)) fault

-- why such a session ends with a fault; after a refused allocation it may be at any point
abbrev pub EndsBytes : List ℕ → ScriptFault → Type 0
EndsBytes bytes Memory = Unit {0}
EndsBytes bytes fault = SessionEndsBy bytes fault

-- why a session ends with a fault, by what its reader gave. If the session is too long, it was not read to its end.
-- After a failed read or a refused allocation, nothing is claimed
abbrev pub EndsSession : Option (List ℕ) → Option (List ℕ) → ScriptFault → Type 0
EndsSession before now Read = Unit {0}
EndsSession before now Memory = Unit {0}
EndsSession before now TooLong = (bytes : List ℕ) × Consumes before now bytes × SessionEndsBy bytes TooLong
EndsSession before now fault = (bytes : List ℕ) × Reads before now bytes × SessionEndsBy bytes fault
