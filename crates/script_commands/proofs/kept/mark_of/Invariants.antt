use Rattle.std.proofs.Common.{◌≡◌, drop}
use Rattle.script_commands.specs.Marks.{marked, mark_of}
use Rattle.script_commands.proofs.kept.mark_of.Given as goal

abbrev pub invariant-loop-byte : goal.invariant-loop-byte
invariant-loop-byte l = mark_of l.name ≡ marked l.mark (drop l.byte-index l.name)
