-- The code of a text, or its first fault.
use Rattle.std.specs.Prelude.{ℕ, ◌+◌, min, true, false, nat_lt, nat_le, if◌then◌else◌, List, [], ◌∷◌, ◌++◌, length, codes, bytes_eq, Option, Some, None, Result, Ok, Err, Bool, not}
use Rattle.std.specs.Str.Lines.{lines}
use Rattle.geos_image.specs.declared.instr.Instr.{Instr}
use Rattle.geos_image.specs.declared.row.Row.{Row}
use Rattle.geos_image.specs.declared.routine.Routine.{Routine}
use Rattle.geos_text.specs.Words.{is_empty, most_bytes}
use Rattle.geos_source.specs.declared.fault.Why.{Why}
use Rattle.geos_source.specs.declared.fault.Why.TheVariants.{TooMany, OutOfPlace}
use Rattle.geos_source.specs.declared.fault.BadLine.{BadLine}
use Rattle.geos_source.specs.declared.progress.TextRoutine.{TextRoutine}
use Rattle.geos_source.specs.declared.progress.Part.{Part}
use Rattle.geos_source.specs.declared.progress.Part.TheVariants.{Outside, Head, Body}
use Rattle.geos_source.specs.declared.progress.Progress.{Progress}
use Rattle.geos_source.specs.Faults.{least, first, at_line}
use Rattle.geos_source.specs.Names.{Names}
use Rattle.geos_source.specs.Lines.{parted, said}
use Rattle.geos_source.specs.Operands.{instruction}
use Rattle.geos_source.specs.Items.{row_of}
use Rattle.geos_source.specs.Headers.{header}
use Rattle.geos_source.specs.Declarations.{declared}

-- what the lines so far say: the complete routines, the instructions without faults, and the state in which the next
-- line is read
pub record Draft : Type 0 where
  pub routines : List TextRoutine
  pub code : List Instr
  pub progress : Progress

-- the draft before the first line
abbrev pub blank : Draft
blank = record { routines = []; code = []; progress = record { part = Outside; current = None; waiting = None; fault = None } }

-- a label that no instruction follows
abbrev pub unfollowed : Option ℕ → Option BadLine
unfollowed None = None
unfollowed (Some line) = Some (record { line = line; why = OutOfPlace })

-- a routine without instruction
abbrev pub unfilled : Part → Option BadLine
unfilled Outside = None
unfilled (Head line has_in has_out) = Some (record { line = line; why = OutOfPlace })
unfilled Body = None

-- the labels so far are followed by no instruction
abbrev pub drop_labels : Progress → Progress
drop_labels p = record { part = p.part; current = p.current; waiting = None; fault = first p.fault (unfollowed p.waiting) }

-- routines with one more, if it has begun without fault
abbrev pub with_current : List TextRoutine → Option TextRoutine → List TextRoutine
with_current routines None = routines
with_current routines (Some routine) = routines ++ routine ∷ []

-- the routine that has begun is complete
abbrev pub closed : Progress → Progress
closed p =
    let dropped = drop_labels p in
    record { part = dropped.part; current = None; waiting = dropped.waiting; fault = first dropped.fault (unfilled dropped.part) }

-- the same for the draft
abbrev pub close : Draft → Draft
close d = record { routines = with_current d.routines d.progress.current; code = d.code; progress = closed d.progress }

-- a fault of the line
abbrev pub why_of : {A : Type 0} → Result A Why → Option Why
why_of (Ok value) = None
why_of (Err why) = Some why

-- there are as many routines as there may be
abbrev pub no_room : List TextRoutine → Option Why
no_room routines = if nat_le 32 (length routines) then Some TooMany else None

-- the routine that has begun, if its line has no fault but a name that was used before
abbrev pub begun_by : ℕ → Result Routine Why → Option Why → Option TextRoutine
begun_by line (Ok routine) None = Some (record { line = line; routine = routine })
begun_by line (Ok routine) (Some why) = None
begun_by line (Err why) other = None

-- a routine begins, faulty or not
abbrev pub begun : ℕ → Result Routine Why → Option Why → Progress → Progress
begun line read full p =
    let why = least (why_of read) full in
    record { part = Head line false false; current = begun_by line read why; waiting = p.waiting; fault = first p.fault (at_line line why) }

-- the same for the draft
abbrev pub begin : ℕ → Result Routine Why → Draft → Draft
begin line read d = record { routines = d.routines; code = d.code; progress = begun line read (no_room d.routines) d.progress }

-- why a line `in` may not be here: it is allowed once, in the head of a routine
abbrev pub misplaced_in : Part → Option Why
misplaced_in Outside = Some OutOfPlace
misplaced_in (Head line has_in has_out) = if has_in then Some OutOfPlace else None
misplaced_in Body = Some OutOfPlace

-- the same of a line `out`
abbrev pub misplaced_out : Part → Option Why
misplaced_out Outside = Some OutOfPlace
misplaced_out (Head line has_in has_out) = if has_out then Some OutOfPlace else None
misplaced_out Body = Some OutOfPlace

-- a line `in` has come
abbrev pub with_in : Part → Part
with_in Outside = Outside
with_in (Head line has_in has_out) = Head line true has_out
with_in Body = Body

-- a line `out` has come
abbrev pub with_out : Part → Part
with_out Outside = Outside
with_out (Head line has_in has_out) = Head line has_in true
with_out Body = Body

-- the routine with its row at entry, if the row has no fault
abbrev pub with_entry : Result Row Why → Option TextRoutine → Option TextRoutine
with_entry read None = None
with_entry (Ok row) (Some r) = Some (record { line = r.line; routine = record r.routine { entry = row } })
with_entry (Err why) (Some r) = Some r

-- the routine with its row at exit, if the row has no fault
abbrev pub with_exit : Result Row Why → Option TextRoutine → Option TextRoutine
with_exit read None = None
with_exit (Ok row) (Some r) = Some (record { line = r.line; routine = record r.routine { exit = row } })
with_exit (Err why) (Some r) = Some r

-- a line `in`
abbrev pub take_in : ℕ → Result Row Why → Progress → Progress
take_in line read p =
    record {
      part = with_in p.part;
      current = with_entry read p.current;
      waiting = p.waiting;
      fault =
          first p.fault (at_line line (least (why_of read) (misplaced_in p.part)));
    }

-- a line `out`
abbrev pub take_out : ℕ → Result Row Why → Progress → Progress
take_out line read p =
    record {
      part = with_out p.part;
      current = with_exit read p.current;
      waiting = p.waiting;
      fault =
          first p.fault (at_line line (least (why_of read) (misplaced_out p.part)));
    }

-- the fault of an instruction outside a routine
abbrev pub outside : Part → Option Why
outside Outside = Some OutOfPlace
outside (Head line has_in has_out) = None
outside Body = None

-- an instruction of the routine has come
abbrev pub in_body : Part → Part
in_body Outside = Outside
in_body (Head line has_in has_out) = Body
in_body Body = Body

-- the most instructions of an image are there
abbrev pub is_full : List Instr → Option Why
is_full code = if nat_le 4096 (length code) then Some TooMany else None

-- an instruction without fault comes to the code
abbrev pub with_instr : Result Instr Why → Option Why → List Instr → List Instr
with_instr (Ok i) None code = code ++ i ∷ []
with_instr (Ok i) (Some why) code = code
with_instr (Err why) other code = code

-- and to its routine's count, which is at most that of an image
abbrev pub counted : Option Why → Option TextRoutine → Option TextRoutine
counted why None = None
counted None (Some r) = Some (record { line = r.line; routine = record r.routine { count = min (r.routine.count + 1) 4096 } })
counted (Some why) (Some r) = Some r

-- an instruction, faulty or not
abbrev pub with_instr_at : ℕ → Option Why → Progress → Progress
with_instr_at line why p = record { part = in_body p.part; current = counted why p.current; waiting = None; fault = first p.fault (at_line line why) }

-- an instruction on a line of the draft
abbrev pub take_instr : ℕ → Result Instr Why → Draft → Draft
take_instr line read d =
    let why = least (why_of read) (least (is_full d.code) (outside d.progress.part)) in
    record { routines = d.routines; code = with_instr read why d.code; progress = with_instr_at line why d.progress }

-- a statement of a line
abbrev pub take_statement : Names → ℕ → List (List ℕ) → Draft → Draft
take_statement names line [] d = d
take_statement names line (word ∷ words) d =
    if bytes_eq word (codes "routine") then begin line (header words) (close d)
    else if bytes_eq word (codes "in") then record d { progress = take_in line (row_of words) (drop_labels d.progress) }
    else if bytes_eq word (codes "out") then record d { progress = take_out line (row_of words) (drop_labels d.progress) }
    else take_instr line (instruction names word words) d

-- the line of the first label that waits
abbrev pub waiting_from : ℕ → Option ℕ → Option ℕ
waiting_from line None = Some line
waiting_from line (Some earlier) = Some earlier

-- labels, if there are some, wait for an instruction
abbrev pub take_labels : ℕ → Bool → Progress → Progress
take_labels line false p = p
take_labels line true p = record { part = p.part; current = p.current; waiting = waiting_from line p.waiting; fault = p.fault }

-- a line with its number
unfoldable pub take_line : Names → ℕ → List ℕ → Draft → Draft
take_line names number line d =
    let parts = parted (said line) in
    take_statement names number parts.statement (record d { progress = take_labels number (not (is_empty parts.labels)) d.progress })

-- lines from a number on
abbrev pub take_lines : Names → ℕ → List (List ℕ) → Draft → Draft
take_lines names number [] d = d
take_lines names number (line ∷ lines) d = take_lines names (number + 1) lines (take_line names number line d)

-- what all lines of a text say
abbrev pub draft_of : Names → List (List ℕ) → Draft
draft_of names lines = close (take_lines names 1 lines blank)

-- a text that is too long is faulty at its first line
abbrev pub too_long : List ℕ → Option BadLine
too_long text = if nat_lt most_bytes (length text) then Some (record { line = 1; why = TooMany }) else None

-- a text without routine is faulty at its first line
abbrev pub without_routine : Part → Option BadLine
without_routine Outside = Some (record { line = 1; why = OutOfPlace })
without_routine (Head line has_in has_out) = None
without_routine Body = None

-- the routines of a text, each with its line, and the instructions of all of them one after
-- another
pub record Code : Type 0 where
  pub routines : List TextRoutine
  pub instrs : List Instr

-- the code, if the text has no fault
abbrev pub unless_bad : Draft → Option BadLine → Result Code BadLine
unless_bad d None = Ok (record { routines = d.routines; instrs = d.code })
unless_bad d (Some fault) = Err fault

-- the first fault of a text, if there is one
abbrev pub fault_of : List ℕ → Option BadLine
fault_of text =
    let names = declared (lines text) in
    let draft = draft_of names.names (lines text) in
    first (first (too_long text) names.fault) (first draft.progress.fault (without_routine draft.progress.part))

-- the code of a text, or its first fault
abbrev pub code_of : List ℕ → Result Code BadLine
code_of text = unless_bad (draft_of (declared (lines text)).names (lines text)) (fault_of text)
