use Rattle.std.proofs.Common.{◌≡◌, ◌≤◌, ◌+◌, drop}
use Rattle.geos_text.specs.Numbers.{number_up_to}
use Rattle.geos_text.proofs.NumberLaws.{number_after}
use Rattle.geos_text.proofs.numbers.number_up_to.Given as goal

abbrev pub invariant-loop-byte : goal.invariant-loop-byte
invariant-loop-byte l = (l.number ≤ l.greatest + 1) × (number_up_to l.greatest l.word ≡ number_after l.greatest l.number (drop l.byte-index l.word))
