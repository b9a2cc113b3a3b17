use Rattle.std.proofs.Common.{subst}
use Rattle.geos_asm.specs.Assembling.{IsAssembled, IsWhyNoImage}
use Rattle.geos_asm.specs.declared.error.BudgetError.TheVariants.{Assemble}
use Rattle.geos_asm.proofs.BudgetLines.{draft-fault, memory-fault}
use Rattle.geos_asm.proofs.budgets.drafted.Goals as goal

pub returns-in_err-new-clause-fault : goal.returns-in_err-new-clause-fault
returns-in_err-new-clause-fault c = memory-fault c.args.text.now _ c.from_residual.ensures.1

pub returns-in_err-made-clause-fault : goal.returns-in_err-made-clause-fault
returns-in_err-made-clause-fault c =
    draft-fault c.args.text.now c.in_ok-new.new.items _ (Assemble c.in_err-made.field-0.0) c.in_ok-new.ensures
    (subst (λ bytes. IsWhyNoImage bytes c.in_err-made.field-0.0) c.deref.ensures.value c.in_err-made.ensures.fault)
    c.from_residual-in_err-made.ensures.1

pub returns-in_err-found-clause-fault : goal.returns-in_err-found-clause-fault
returns-in_err-found-clause-fault c = memory-fault c.args.text.now _ c.from_residual-in_err-found.ensures.1

pub returns-clause-image : goal.returns-clause-image
returns-clause-image c = subst (λ bytes. IsAssembled bytes c.in_ok-made.made.image) c.deref.ensures.value c.in_ok-made.ensures.image

pub returns-clause-budgeted : goal.returns-clause-budgeted
returns-clause-budgeted c = (
  c.in_ok-new.ensures,
  (
    c.in_ok-made.made.image,
    subst (λ bytes. IsAssembled bytes c.in_ok-made.made.image) c.deref.ensures.value
        c.in_ok-made.ensures.image,
    c.in_default.ensures.none,
    c.in_default-first_unset_loop.ensures.none,
  ),
)
