use Rattle.std.proofs.Common.{refl, subst}
use Rattle.geos_image.specs.declared.instr.Instr.{Instr}
use Rattle.tkv_checks.specs.Walks.{IsTried}
use Rattle.tkv_checks.proofs.Closings.{count_closes}
use Rattle.tkv_checks.proofs.closes.tested_before.Goals as goal

pub returns-then-are_one : goal.returns-then-are_one
returns-then-are_one c is instr = count_closes c.args.image.now c.args.bracket.now c.args.after c.in_ok-found.found is instr
    (subst (λ (i : Instr). IsTried c.args.image.now i c.args.bracket.now.here c.in_ok-found.found) c.turn.ensures c.in_ok-found.ensures)
    (c.if-comes_only_to.ensures refl) (c.if-are_one.ensures refl)
