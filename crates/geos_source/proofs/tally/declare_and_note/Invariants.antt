use Rattle.std.proofs.Common.{◌≡◌, ◌≤◌, ◌+◌, length}
use Rattle.std.specs.Prelude.{None}
use Rattle.std.specs.Str.Lines.{lines}
use Rattle.geos_source.specs.Declarations.{declared, with_lines}
use Rattle.geos_source.specs.Tallies.{noted, fault_in}
use Rattle.geos_source.specs.Views.{declared_of}
use Rattle.geos_source.proofs.tally.declare_and_note.Given as goal

abbrev pub invariant-loop-rest : goal.invariant-loop-rest
invariant-loop-rest l =
    (l.number + length l.rest ≤ length l.fn.text)
    × (declared (lines l.fn.text) ≡ with_lines (l.number + 1) (lines l.rest) (noted (fault_in l.faults) (declared_of l.declarations)))
    × (l.declarations.fault ≡ None)

abbrev pub decreases-loop-rest : goal.decreases-loop-rest
decreases-loop-rest l = length l.rest
