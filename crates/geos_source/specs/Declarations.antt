-- What the names of a text stand for, and the first name that is used twice.
use Rattle.std.specs.Prelude.{ℕ, ◌+◌, Bool, ◌||◌, min, if◌then◌else◌, List, [], ◌∷◌, codes, bytes_eq, Option, Some, None}
use Rattle.geos_source.specs.declared.fault.Why.{Why}
use Rattle.geos_source.specs.declared.fault.Why.TheVariants.{UsedTwice}
use Rattle.geos_source.specs.declared.fault.BadLine.{BadLine}
use Rattle.geos_source.specs.Faults.{first, at_line}
use Rattle.geos_source.specs.Names.{Names, none_defined, with_name, name_of}
use Rattle.geos_source.specs.Lines.{parted, said}

-- how many routines and instructions have begun, up to the most that an image has; the names so
-- far; and the first one that was used before
pub record Declared : Type 0 where
  pub routines : ℕ
  pub instrs : ℕ
  pub names : Names
  pub fault : Option BadLine

-- nothing is declared
abbrev pub nothing : Declared
nothing = record { routines = 0; instrs = 0; names = record { labels = none_defined; routines = none_defined }; fault = None }

-- a name that was defined before is used twice
abbrev pub twice : Option ℕ → Option Why
twice None = None
twice (Some value) = Some UsedTwice

-- a label stands for the next instruction
abbrev pub with_label : ℕ → List ℕ → Declared → Declared
with_label line name d =
    record {
      routines = d.routines;
      instrs = d.instrs;
      names =
          record { labels = with_name d.names.labels name d.instrs; routines = d.names.routines };
      fault =
          first d.fault (at_line line (twice (d.names.labels name)));
    }

-- labels of one line, from the first on
abbrev pub with_labels : ℕ → List (List ℕ) → Declared → Declared
with_labels line [] d = d
with_labels line (name ∷ names) d = with_labels line names (with_label line name d)

-- a routine's name stands for its place among the routines
abbrev pub with_routine_name : ℕ → Option (List ℕ) → Declared → Declared
with_routine_name line None d = d
with_routine_name line (Some name) d =
    record {
      routines = d.routines;
      instrs = d.instrs;
      names =
          record { labels = d.names.labels; routines = with_name d.names.routines name d.routines };
      fault =
          first d.fault (at_line line (twice (d.names.routines name)));
    }

-- the routine's name: the first word after `routine`
abbrev pub name_in_front : List (List ℕ) → Option (List ℕ)
name_in_front [] = None
name_in_front (word ∷ words) = name_of word

-- one more routine has begun
abbrev pub one_more_routine : Declared → Declared
one_more_routine d = record { routines = min (d.routines + 1) 32; instrs = d.instrs; names = d.names; fault = d.fault }

-- one more instruction has begun
abbrev pub one_more_instr : Declared → Declared
one_more_instr d = record { routines = d.routines; instrs = min (d.instrs + 1) 4096; names = d.names; fault = d.fault }

-- the line is about the rows of a routine
abbrev pub is_row_word : List ℕ → Bool
is_row_word word = bytes_eq word (codes "in") || bytes_eq word (codes "out")

-- each statement but those of the three words counts as an instruction, faulty or not
abbrev pub with_statement : ℕ → List (List ℕ) → Declared → Declared
with_statement line [] d = d
with_statement line (word ∷ words) d =
    if bytes_eq word (codes "routine") then one_more_routine (with_routine_name line (name_in_front words) d)
    else if is_row_word word then d
    else one_more_instr d

-- a line with its number
unfoldable pub with_line : ℕ → List ℕ → Declared → Declared
with_line number line d = let parts = parted (said line) in with_statement number parts.statement (with_labels number parts.labels d)

-- lines from a number on
abbrev pub with_lines : ℕ → List (List ℕ) → Declared → Declared
with_lines number [] d = d
with_lines number (line ∷ lines) d = with_lines (number + 1) lines (with_line number line d)

-- what the lines of a text declare
abbrev pub declared : List (List ℕ) → Declared
declared lines = with_lines 1 lines nothing
