use Rattle.std.proofs.Common.{◌≡◌, length}
use Rattle.geos_text.specs.Words.{words}
use Rattle.script_tests.specs.Expected.{words_printed}
use Rattle.script_tests.proofs.printed.is_printed.Given as goal

abbrev pub invariant-loop-rest : goal.invariant-loop-rest
invariant-loop-rest l = words l.left ≡ words_printed l.rest → words l.fn.expected ≡ words_printed l.fn.printed

abbrev pub decreases-loop-rest : goal.decreases-loop-rest
decreases-loop-rest l = length l.rest
