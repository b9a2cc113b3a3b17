use Rattle.std.proofs.Common.{◌≡◌, length}
use Rattle.script_commands.specs.Reading.{words_of}
use Rattle.script_commands.specs.Lines.{from_blocks}
use Rattle.script_commands.proofs.lines.from_blocks.Given as goal

abbrev pub invariant-loop-word : goal.invariant-loop-word
invariant-loop-word l = from_blocks (words_of l.numbers) ≡ from_blocks (words_of l.rest)

abbrev pub decreases-loop-word : goal.decreases-loop-word
decreases-loop-word l = length (words_of l.rest)
