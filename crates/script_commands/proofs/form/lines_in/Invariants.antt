use Rattle.std.proofs.Common.{◌≡◌, ◌++◌, length}
use Rattle.std.specs.Str.Lines.{lines}
use Rattle.script_commands.specs.Forms.{lines_in}
use Rattle.script_commands.proofs.form.lines_in.Given as goal

abbrev pub invariant-loop-rest : goal.invariant-loop-rest
invariant-loop-rest l =
    lines_in l.fn.writing l.fn.front l.fn.end (lines l.fn.plain) ≡ l.text.items ++ lines_in l.fn.writing l.fn.front l.fn.end (lines l.rest)

abbrev pub decreases-loop-rest : goal.decreases-loop-rest
decreases-loop-rest l = length l.rest
