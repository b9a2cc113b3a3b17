use Rattle.std.proofs.Common.{◌≤◌, ◌+◌, length}
use Rattle.geos_explain.proofs.explanation.all_lines.Given as goal

abbrev pub invariant-loop-rest : goal.invariant-loop-rest
invariant-loop-rest l = l.number + length l.rest ≤ length l.fn.text

abbrev pub decreases-loop-rest : goal.decreases-loop-rest
decreases-loop-rest l = length l.rest
