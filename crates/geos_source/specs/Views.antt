-- What a parser's state says.
use Rattle.std.specs.Prelude.{◌≡◌, ◌≤◌, ℕ, Bool, None}
use Rattle.geos_text.specs.Words.{most_bytes}
use Rattle.geos_source.specs.declared.declarations.Declarations as code
use Rattle.geos_source.specs.declared.draft.Draft as reader
use Rattle.geos_source.specs.Readings.{names_of}
use Rattle.geos_source.specs.Declarations.{Declared}
use Rattle.geos_source.specs.Texts.{Draft}
use Rattle.geos_source.specs.InstrLines.{with_number_if}

-- what is declared
abbrev pub declared_of : code.Declarations → Declared
declared_of d = record { routines = d.routines; instrs = d.instrs; names = names_of d.names; fault = d.fault }

-- what the lines so far say
abbrev pub draft_in : reader.Draft → Draft
draft_in d = record { routines = d.routines.items; code = d.code.items; progress = d.progress }

-- after line `number`, which has an instruction or not: the list of instructions' lines has got this number exactly
-- if the line has one. This holds if there is no fault so far, and a text may have so many lines.
abbrev pub NumbersLine : ℕ → Bool → reader.Draft → reader.Draft → Type 0
NumbersLine number has old new =
    number ≤ most_bytes → new.progress.fault ≡ None → new.lines.items ≡ with_number_if has number old.lines.items
