-- The faulty lines of a text, all of them.
use Rattle.std.specs.Prelude.{ℕ, ◌+◌, List, [], ◌∷◌, Option, None}
use Rattle.geos_source.specs.declared.fault.Why.{Why}
use Rattle.geos_source.specs.declared.fault.BadLine.{BadLine}
use Rattle.geos_source.specs.declared.tally.Faults.{Faults}
use Rattle.geos_source.specs.declared.tally.Tally.{Tally}
use Rattle.geos_source.specs.Faults.{first, at_line}
use Rattle.geos_source.specs.Declarations.{Declared}
use Rattle.geos_source.specs.Texts.{Draft}
use Rattle.geos_source.specs.Views.{draft_in}

-- of lines from a number on, of which each is faulty or not, the first that is
abbrev pub first_in : ℕ → List (Option Why) → Option BadLine
first_in number [] = None
first_in number (why ∷ whys) = first (at_line number why) (first_in (number + 1) whys)

-- the first of all faults
unfoldable pub fault_in : Faults → Option BadLine
fault_in faults = first (first_in 1 faults.lines.items) faults.rest

-- the declarations, with the faults that were noted before
abbrev pub noted : Option BadLine → Declared → Declared
noted fault d = record { routines = d.routines; instrs = d.instrs; names = d.names; fault = first fault d.fault }

-- the draft, with the faults that were noted before
abbrev pub told : Option BadLine → Draft → Draft
told fault t =
    record {
      routines = t.routines;
      code = t.code;
      progress =
          record { part = t.progress.part; current = t.progress.current; waiting = t.progress.waiting; fault = first fault t.progress.fault };
    }

-- the draft so far, with all faults that were noted
abbrev pub told_in : Tally → Draft
told_in tally = told (fault_in tally.faults) (draft_in tally.draft)
