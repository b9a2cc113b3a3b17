use Rattle.std.proofs.Common.{◌++◌, ℕ, List, length}
use Rattle.geos_asm.specs.Budgets.{whole_lines, AreLinesAlike, HasOtherBudgets}
use Rattle.geos_asm.proofs.budgets.with_budgets.Given as goal

-- what makes the lines to come alike makes all
abbrev pub invariant-loop-rest : goal.invariant-loop-rest
invariant-loop-rest l = (tail : List ℕ) → AreLinesAlike (whole_lines l.rest) tail → HasOtherBudgets l.fn.text (l.new.items ++ tail)

abbrev pub decreases-loop-rest : goal.decreases-loop-rest
decreases-loop-rest l = length l.rest
