use Rattle.std.proofs.Common.{◌≡◌, ◌++◌, ℕ, List, length}
use Rattle.geos_text.specs.Words.{words}
use Rattle.script_tests.proofs.printed.after_words.Given as goal

abbrev pub invariant-loop-word : goal.invariant-loop-word
invariant-loop-word l = (others : List (List ℕ)) → words l.left ≡ words l.rest ++ others → words l.fn.text ≡ words l.line ++ others

abbrev pub decreases-loop-word : goal.decreases-loop-word
decreases-loop-word l = length (words l.rest)
