use Rattle.std.proofs.Common.{◌≡◌, ◌≤◌, ◌-◌, ◌++◌, List, ℕ, false, drop, length}
use Rattle.std.specs.Prelude.{All}
use Rattle.geos_text.specs.Words.{words}
use Rattle.script_commands.specs.Names.{is_arrow}
use Rattle.geos_scripts.proofs.keeping.arrow_of.Given as goal

abbrev pub invariant-loop-word : goal.invariant-loop-word
invariant-loop-word l =
    (l.at ≤ length l.line)
    × ((passed : List (List ℕ)) × (words l.line ≡ passed ++ words (drop l.at l.line)) × All (λ w. is_arrow w ≡ false) passed)

abbrev pub decreases-loop-word : goal.decreases-loop-word
decreases-loop-word l = length l.line - l.at
