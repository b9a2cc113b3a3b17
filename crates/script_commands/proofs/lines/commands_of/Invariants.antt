use Rattle.std.proofs.Common.{◌≡◌, ◌≤◌, ◌+◌, ◌++◌, length}
use Rattle.std.specs.List.{position_from}
use Rattle.std.specs.Str.Lines.{lines}
use Rattle.script_commands.specs.Lines.{commands_from, commands_of, first_bad, is_bad}
use Rattle.script_commands.proofs.lines.commands_of.Given as goal

abbrev pub invariant-loop-rest : goal.invariant-loop-rest
invariant-loop-rest l =
    (l.line_number + length l.rest ≤ length l.fn.script)
    × (first_bad l.fn.checked (lines l.fn.script) ≡ position_from (is_bad l.fn.checked) (l.line_number + 1) (lines l.rest))
    × (commands_of l.fn.checked (lines l.fn.script) ≡ l.commands.items ++ commands_from l.fn.checked (l.line_number + 1) (lines l.rest))

abbrev pub decreases-loop-rest : goal.decreases-loop-rest
decreases-loop-rest l = length l.rest
