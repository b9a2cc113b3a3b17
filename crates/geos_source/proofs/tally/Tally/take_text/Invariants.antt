use Rattle.std.proofs.Common.{◌≡◌, ◌≤◌, ◌+◌, length}
use Rattle.std.specs.Str.Lines.{lines}
use Rattle.geos_source.specs.Readings.{names_of}
use Rattle.geos_source.specs.Tallies.{told_in}
use Rattle.geos_source.specs.Texts.{take_lines}
use Rattle.geos_source.proofs.tally.Tally.take_text.Given as goal

abbrev pub invariant-loop-rest : goal.invariant-loop-rest
invariant-loop-rest l =
    (l.number + length l.rest ≤ length l.fn.text)
    × (take_lines (names_of l.names) 1 (lines l.fn.text) (told_in l.fn.self) ≡ take_lines (names_of l.names)
    (l.number + 1) (lines l.rest) (told_in l.self))

abbrev pub decreases-loop-rest : goal.decreases-loop-rest
decreases-loop-rest l = length l.rest
