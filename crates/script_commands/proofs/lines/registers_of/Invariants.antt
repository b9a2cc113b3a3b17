use Rattle.std.proofs.Common.{◌≡◌, ◌+◌, ◌-◌, ◌++◌, length, replicate, take, drop}
use Rattle.std.specs.Prelude.{option_map}
use Rattle.script_commands.specs.Reading.{words_of}
use Rattle.script_commands.specs.Lines.{before_blocks, numbers_of}
use Rattle.script_commands.proofs.lines.registers_of.Given as goal

abbrev pub invariant-loop-i : goal.invariant-loop-i
invariant-loop-i l =
    (length l.registers ≡ 8)
    × (numbers_of (before_blocks (words_of l.numbers)) ≡ option_map (λ ns. take l.i l.registers ++ ns) (numbers_of (before_blocks (words_of l.rest))))
    × (length (before_blocks (words_of l.numbers)) ≡ l.i + length (before_blocks (words_of l.rest))) × (drop l.i l.registers ≡ replicate (8 - l.i) 0)
