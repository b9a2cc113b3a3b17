use Rattle.std.proofs.Common.{◌≡◌, ◌≤◌, ◌-◌, ◌++◌, length, take, drop}
use Rattle.script_commands.specs.Lines.{before_blocks, from_blocks}
use Rattle.script_commands.specs.Reading.{texts}
use Rattle.script_commands.proofs.call_words.numbers_in.Given as goal

abbrev pub invariant-loop-count : goal.invariant-loop-count
invariant-loop-count l =
    (l.count ≤ length l.words)
    × (before_blocks (texts l.words) ≡ texts (take l.count l.words) ++ before_blocks (texts (drop l.count l.words)))
    × (from_blocks (texts l.words) ≡ from_blocks (texts (drop l.count l.words)))

abbrev pub decreases-loop-count : goal.decreases-loop-count
decreases-loop-count l = length l.words - l.count
