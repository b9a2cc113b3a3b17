use Rattle.std.proofs.Common.{◌≡◌, ◌<◌, ◌≤◌, ◌-◌, ℕ, true, length, take}
use Rattle.script_commands.specs.CallWords.{takes}
use Rattle.script_commands.specs.Reading.{texts}
use Rattle.script_commands.proofs.call_words.why_no_call.Given as goal

abbrev pub invariant-loop-numbers : goal.invariant-loop-numbers
invariant-loop-numbers l =
    (l.word ≤ length l.numbers) × ((k : ℕ) → k < l.word → takes l.fn.checked l.fn.name (take k (texts l.numbers)) ≡ true)

abbrev pub decreases-loop-numbers : goal.decreases-loop-numbers
decreases-loop-numbers l = length l.numbers - l.word
