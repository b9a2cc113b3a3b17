use Rattle.std.proofs.Common.{ℕ, sym, subst}
use Rattle.geos_image.specs.Parts.{Parts}
use Rattle.geos_potentials.specs.Reasons.{IsReason}
use Rattle.geos_rows.specs.Reached.{FitWhereReached}
use Rattle.geos_diagnosis.proofs.diagnosis.find_cause.Goals as goal

pub cause_of_steps-requires-clause-rows : goal.cause_of_steps-requires-clause-rows
cause_of_steps-requires-clause-rows c =
    let known = c.args.known.now in
    subst (λ (i : Parts). FitWhereReached i c.body_of.result.r known) (sym c.body_of.ensures.image)
    (subst (λ (n : ℕ). FitWhereReached c.args.image.now n known) (sym c.body_of.ensures.r) c.requires.rows)

pub cause_of_steps-requires-clause-reason : goal.cause_of_steps-requires-clause-reason
cause_of_steps-requires-clause-reason c =
    let known = c.args.known.now in
    let reason = c.args.reason.now in
    subst (λ (i : Parts). IsReason i c.body_of.result.r known reason) (sym c.body_of.ensures.image)
    (subst (λ (n : ℕ). IsReason c.args.image.now n known reason) (sym c.body_of.ensures.r) c.requires.reason)
