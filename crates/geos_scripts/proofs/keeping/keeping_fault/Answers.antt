use Rattle.std.proofs.Common.{sym, subst}
use Rattle.geos_text.specs.Words.{words}
use Rattle.geos_scripts.specs.declared.names.NameUse.{NameUse}
use Rattle.geos_scripts.specs.Faults.{FitsKeeping}
use Rattle.geos_scripts.specs.Walks.{IsFoundOfKeeping}
use Rattle.geos_scripts.proofs.keeping.keeping_fault.Goals as goal

pub returns-in-Allowed : goal.returns-in-Allowed
returns-in-Allowed c = λ image.
    subst (λ (uses : NameUse). IsFoundOfKeeping uses image (words c.args.line.now) c.arrow_fault.result) (sym c.in-Allowed.is)
    (c.arrow_fault.ensures image)

pub returns-in-Refused : goal.returns-in-Refused
returns-in-Refused c = λ image. subst (λ (uses : NameUse). FitsKeeping uses (words c.args.line.now)) (sym c.in-Refused.is) tt
