use Rattle.std.proofs.Common.{◌≡◌, ◌≤◌, ◌+◌, ◌++◌, length, map}
use Rattle.std.specs.Str.Lines.{lines}
use Rattle.script_commands.specs.Names.{lines_said, said_by, said_from}
use Rattle.script_commands.proofs.named_lines.lines_said.Given as goal

abbrev pub invariant-loop-rest : goal.invariant-loop-rest
invariant-loop-rest l =
    (l.number + length l.rest ≤ length l.fn.script) × (lines_said l.fn.script ≡ map said_by l.said.items ++ said_from (l.number + 1) (lines l.rest))

abbrev pub decreases-loop-rest : goal.decreases-loop-rest
decreases-loop-rest l = length l.rest
