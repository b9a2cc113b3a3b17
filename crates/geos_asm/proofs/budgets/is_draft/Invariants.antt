use Rattle.std.proofs.Common.{ℕ, length}
use Rattle.geos_asm.proofs.budgets.is_draft.Given as goal

abbrev pub decreases-loop-rest : goal.decreases-loop-rest
decreases-loop-rest l = length l.rest
