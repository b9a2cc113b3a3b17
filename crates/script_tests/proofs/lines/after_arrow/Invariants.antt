use Rattle.std.proofs.Common.{◌≡◌, length}
use Rattle.geos_text.specs.Words.{words}
use Rattle.script_tests.specs.Expected.{after_arrow}
use Rattle.script_tests.proofs.lines.after_arrow.Given as goal

abbrev pub invariant-loop-word : goal.invariant-loop-word
invariant-loop-word l = after_arrow (words l.line) ≡ after_arrow (words l.rest)

abbrev pub decreases-loop-word : goal.decreases-loop-word
decreases-loop-word l = length (words l.rest)
