use Rattle.std.proofs.Common.{◌≡◌, ◌++◌, [], drop, map}
use Rattle.script_commands.specs.Names.{names_of, said_by}
use Rattle.script_commands.specs.BadLines.{bad_behind, numbers}
use Rattle.script_commands.proofs.bad.bad_of.Given as goal

abbrev pub invariant-loop-line : goal.invariant-loop-line
invariant-loop-line l = bad_behind l.checked [] (map said_by l.lines) ≡ numbers l.bad.items ++ bad_behind l.checked (names_of l.names.items)
    (map said_by (drop l.line-index l.lines))
