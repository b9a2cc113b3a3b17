use Rattle.std.proofs.Common.{◌≡◌, ◌≤◌, ◌+◌, length}
use Rattle.script_tests.specs.Expected.{expecting, expecting_of}
use Rattle.script_tests.proofs.lines.test_lines.Given as goal

abbrev pub invariant-loop-rest : goal.invariant-loop-rest
invariant-loop-rest l =
    (l.number + length l.rest ≤ length l.fn.script)
    × (expecting l.fn.script ≡ expecting_of l.found.items + expecting l.rest)

abbrev pub decreases-loop-rest : goal.decreases-loop-rest
decreases-loop-rest l = length l.rest
