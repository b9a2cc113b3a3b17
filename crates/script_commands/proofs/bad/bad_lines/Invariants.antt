use Rattle.std.proofs.Common.{◌≡◌, ◌≤◌, ◌+◌, ◌++◌, length}
use Rattle.std.specs.Str.Lines.{lines}
use Rattle.script_commands.specs.BadLines.{bad_from, bad_lines, numbers}
use Rattle.script_commands.proofs.bad.bad_lines.Given as goal

abbrev pub invariant-loop-rest : goal.invariant-loop-rest
invariant-loop-rest l =
    (l.number + length l.rest ≤ length l.fn.script)
    × (bad_lines l.fn.checked l.fn.script ≡ numbers l.bad.items ++ bad_from l.fn.checked (l.number + 1) (lines l.rest))

abbrev pub decreases-loop-rest : goal.decreases-loop-rest
decreases-loop-rest l = length l.rest
