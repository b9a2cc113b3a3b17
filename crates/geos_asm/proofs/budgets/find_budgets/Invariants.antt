use Rattle.geos_asm.specs.Assembling.{IsAssembled}
use Rattle.geos_asm.specs.Budgets.{IsBudgeted}
use Rattle.geos_asm.proofs.budgets.find_budgets.Given as goal

-- the draft's image is the assembled text of the draft
abbrev pub invariant-loop : goal.invariant-loop
invariant-loop l =
    IsBudgeted l.fn.text l.draft.budgeted.text.items × IsAssembled l.draft.budgeted.text.items l.draft.budgeted.made.image
