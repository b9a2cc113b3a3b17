use Rattle.std.proofs.Common.{◌≤◌, ◌-◌, length}
use Rattle.geos_lines.proofs.names.NamesSoFar.take_labels.Given as goal

abbrev pub invariant-loop-word : goal.invariant-loop-word
invariant-loop-word l = l.from ≤ length l.line

abbrev pub decreases-loop-word : goal.decreases-loop-word
decreases-loop-word l = length l.line - l.from
