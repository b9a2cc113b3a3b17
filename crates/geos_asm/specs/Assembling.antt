-- What an assembler answers.
use Rattle.std.specs.Prelude.{◌≡◌, ℕ, false, List, Some, Ok, Err, slice_get}
use Rattle.geos_image.specs.declared.instr.Instr.{Instr}
use Rattle.geos_image.specs.Parts.{Parts}
use Rattle.geos_source.specs.declared.parser.ParseError.{ParseError}
use Rattle.geos_source.specs.declared.parser.ParseError.TheVariants as parse_error
use Rattle.geos_source.specs.declared.progress.TextRoutine.{TextRoutine}
use Rattle.geos_source.specs.InstrLines.{instr_lines}
use Rattle.geos_source.specs.Texts.{Code, code_of}
use Rattle.geos_source.specs.Coded.{HasCode}
use Rattle.geos_source.specs.Skeletons.{skeleton}
use Rattle.geos_verify.specs.Rules.{IsChecked}
use Rattle.geos_code.specs.Code.{Forward}
use Rattle.geos_rows.specs.Reached.{AllHoldWhereReached}
use Rattle.geos_potentials.specs.Accepted.{HasAccepted}
use Rattle.geos_infer.specs.Theorem.{FindsWhatThereIs, NoneIsAccepted, NothingHoldsIn}
use Rattle.loop_causes.specs.Causes.{Holds, tells_of_slots}
use Rattle.geos_infer.specs.Findings.{Stops}
use Rattle.geos_rows.specs.Why.{MeetAlike}
use Rattle.geos_flow.specs.declared.cause.Cause.{Cause}
use Rattle.geos_flow.specs.declared.cause.Cause.TheVariants as causes
use Rattle.geos_diagnosis.specs.Tells.{TellsOfReason}
use Rattle.geos_infer.specs.declared.finding.Finding.{Finding}
use Rattle.geos_infer.specs.declared.finding.Obstacle.{Obstacle}
use Rattle.geos_infer.specs.declared.finding.Obstacle.TheVariants.{SlotsDiffer, NoSteps}
use Rattle.geos_asm.specs.declared.cause.Unassembled.{Unassembled}
use Rattle.geos_asm.specs.declared.cause.Unassembled.TheVariants as unassembled
use Rattle.geos_asm.specs.declared.error.AssembleError.{AssembleError}
use Rattle.geos_asm.specs.declared.error.AssembleError.TheVariants.{BadLine, NoRows, Memory}

-- a parser's fault as the assembler's
abbrev pub of_parse : ParseError → AssembleError
of_parse (parse_error.BadLine fault) = BadLine fault
of_parse parse_error.Memory = Memory

-- a parser's fault as why there is no image
abbrev pub unassembled_by : ParseError → Unassembled
unassembled_by (parse_error.BadLine fault) = unassembled.BadLine fault
unassembled_by parse_error.Memory = unassembled.Memory

-- a routine of the code begins at the line
pub record BeginsAt (code : Code) (line : ℕ) : Type 0 where
  pub r : ℕ
  pub routine : TextRoutine
  pub there : slice_get code.routines r ≡ Some routine
  pub line_is : routine.line ≡ line

-- the text has no fault; the image has its code, its rows hold wherever control reaches, and no rule
-- refuses it if that code has no loops and some image with it is accepted
pub record IsAssembled (text : List ℕ) (image : Parts) : Type 0 where
  pub code : Code
  pub read : code_of text ≡ Ok code
  pub has : HasCode code image
  pub rows : AllHoldWhereReached image
  pub found : FindsWhatThereIs (skeleton code) image

-- the text has no fault, and the image may run, if that code has no loops and some image with it may
pub record RunsIfAnyDoes (text : List ℕ) (image : Parts) : Type 0 where
  pub code : Code
  pub read : code_of text ≡ Ok code
  pub found : Forward (skeleton code) → HasAccepted (skeleton code) → IsChecked image

-- the text has no fault, and a routine of it begins at the line; if its code has no loops, no image
-- with that code is accepted; and if that routine has none, no rows and numbers of steps hold in it
pub record HasNoRows (text : List ℕ) (line : ℕ) : Type 0 where
  pub code : Code
  pub read : code_of text ≡ Ok code
  pub begins : BeginsAt code line
  pub none : NoneIsAccepted (skeleton code)
  pub stuck : NothingHoldsIn (skeleton code) begins.r

-- why there is no image: the text's first fault, no rows and potentials, or lack of memory
abbrev pub IsWhyNoImage : List ℕ → AssembleError → Type 0
IsWhyNoImage text (BadLine fault) = code_of text ≡ Err fault
IsWhyNoImage text (NoRows line) = HasNoRows text line
IsWhyNoImage text Memory = Unit {0}

-- a cause explains an obstacle
abbrev pub TellsOf : Obstacle → Cause → Type 0
TellsOf (SlotsDiffer apart) told = told ≡ causes.SlotsDiffer apart
TellsOf (NoSteps unpaid) told = TellsOfReason unpaid.reason told

-- the cause holds of the routine that starts at the line, and explains what stops the search for rows and potentials
-- in this routine. If the slots of two paths to one pc differ in more than marks, this is the cause.
pub record IsCauseOf (text : List ℕ) (line : ℕ) (cause : Cause) : Type 0 where
  pub code : Code
  pub read : code_of text ≡ Ok code
  pub begins : BeginsAt code line
  pub holds : Holds (skeleton code) begins.r cause
  pub slots : tells_of_slots cause ≡ false → MeetAlike (skeleton code) begins.r
  pub finding : Finding
  pub stops : Stops (skeleton code) finding
  pub there : finding.routine ≡ begins.r
  pub tells : TellsOf finding.obstacle cause

-- the same, and `instrs` are the instructions of the text
pub record IsCauseIn (text : List ℕ) (line : ℕ) (cause : Cause) (instrs : List Instr) : Type 0 where
  pub of : IsCauseOf text line cause
  pub are : of.code.instrs ≡ instrs

-- why there is no image, with the cause and the lines of the instructions: the text's first fault, no rows and
-- potentials, or lack of memory
abbrev pub IsWhyUnassembled : List ℕ → Unassembled → Type 0
IsWhyUnassembled text (unassembled.BadLine fault) = IsWhyNoImage text (BadLine fault)
IsWhyUnassembled text (unassembled.NoRows line cause parsed) =
    IsWhyNoImage text (NoRows line) × IsCauseIn text line cause parsed.instrs.items × (parsed.lines.items ≡ instr_lines text)
IsWhyUnassembled text unassembled.Memory = Unit {0}
