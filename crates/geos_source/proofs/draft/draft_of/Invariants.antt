use Rattle.std.proofs.Common.{◌≡◌, ◌≤◌, ◌+◌, ◌++◌, None, length}
use Rattle.std.specs.Str.Lines.{lines}
use Rattle.geos_text.specs.Words.{most_bytes}
use Rattle.geos_source.specs.InstrLines.{instr_lines, instr_lines_from}
use Rattle.geos_source.specs.Readings.{names_of}
use Rattle.geos_source.specs.Texts.{take_lines, blank}
use Rattle.geos_source.specs.Views.{draft_in}
use Rattle.geos_source.proofs.draft.draft_of.Given as goal

abbrev pub invariant-loop-rest : goal.invariant-loop-rest
invariant-loop-rest l =
    (l.number + length l.rest ≤ length l.fn.text)
    × (take_lines (names_of l.declared.names) 1 (lines l.fn.text) blank ≡ take_lines (names_of l.declared.names)
    (l.number + 1) (lines l.rest) (draft_in l.draft))
    × (length l.fn.text ≤ most_bytes → l.draft.progress.fault ≡ None
    → instr_lines l.fn.text ≡ l.draft.lines.items ++ instr_lines_from (l.number + 1) (lines l.rest))

abbrev pub decreases-loop-rest : goal.decreases-loop-rest
decreases-loop-rest l = length l.rest
