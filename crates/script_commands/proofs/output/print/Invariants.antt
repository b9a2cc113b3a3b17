use Rattle.std.proofs.Common.{◌≡◌, take}
use Rattle.std.specs.Io.KnownBytes.{Appends}
use Rattle.script_commands.specs.Outputs.{printed}
use Rattle.script_commands.proofs.output.print.Given as goal

abbrev pub invariant-loop-word : goal.invariant-loop-word
invariant-loop-word g l =
    Appends (g.W.Write.contents l.fn.out.stream) (g.W.Write.contents l.out.stream) (printed (take l.word-index l.fn.words))
    × (l.out.failures ≡ l.fn.out.failures)
