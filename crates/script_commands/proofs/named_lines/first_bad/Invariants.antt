use Rattle.std.proofs.Common.{◌≡◌, [], drop, map}
use Rattle.script_commands.specs.Names.{first_bad_in, names_of, said_by}
use Rattle.script_commands.proofs.named_lines.first_bad.Given as goal

abbrev pub invariant-loop-line : goal.invariant-loop-line
invariant-loop-line l = first_bad_in l.checked [] (map said_by l.lines) ≡ first_bad_in l.checked (names_of l.names.items)
    (map said_by (drop l.line-index l.lines))
