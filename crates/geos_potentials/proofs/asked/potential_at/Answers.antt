use Rattle.std.proofs.Common.{◌<◌, ℕ, List, sym, ap, ◌∙◌, inl, inr, arith}
use Rattle.std.specs.Prelude.{max}
use Rattle.std.proofs.lemmas.Bool.{cases_lt}
use Rattle.geos_verify.specs.Lists.{zip2}
use Rattle.geos_potentials.specs.Count.{asked_coefficients}
use Rattle.geos_potentials.specs.Numbers.{numbers_of}
use Rattle.geos_counters.specs.Steps.{most_steps}
use Rattle.geos_potentials.proofs.Asks.{found-some, found-none}
use Rattle.geos_potentials.proofs.asked.potential_at.Goals as goal

pub returns-in-Ok : goal.returns-in-Ok
returns-in-Ok c = λ forward none.
    let body = c.args.body.now in
    let joined = c.coefficients_join-coefficients.ensures ∙ ap (λ (xs : List ℕ). zip2 max xs c.asked_coefficients-2.result)
    c.asked_coefficients.ensures ∙ ap (zip2 max (asked_coefficients c.asked_over-along.result)) c.asked_coefficients-2.ensures in
    let is = c.larger64.ensures ∙ ap (λ n. max n c.larger64-edges.result) c.return_steps.ensures ∙ ap (max _) c.larger64-edges.ensures in
    found-some body.image.now body.end c.args.pc (numbers_of c.args.potentials.now).steps c.instr-i.result.now
    c.asked_over-along.result c.asked_over-branching.result c.coefficients_join-coefficients.result c.owed.result c.owed-2.result c.larger64.result
    (omega (arith, body.room)) c.instr-i.ensures.there (c.asked_over-along.ensures.steps forward none)
    (c.asked_over-branching.ensures.steps forward none) joined c.owed.ensures c.owed-2.ensures is
    c.in-Ok.constant (sym c.in-Ok.ensures.1)

pub returns-in-Err : goal.returns-in-Err
returns-in-Err c = λ forward none.
    let body = c.args.body.now in
    let joined = c.coefficients_join-coefficients.ensures ∙ ap (λ (xs : List ℕ). zip2 max xs c.asked_coefficients-2.result)
    c.asked_coefficients.ensures ∙ ap (zip2 max (asked_coefficients c.asked_over-along.result)) c.asked_coefficients-2.ensures in
    let is = c.larger64.ensures ∙ ap (λ n. max n c.larger64-edges.result) c.return_steps.ensures ∙ ap (max _) c.larger64-edges.ensures in
    let past : most_steps < c.larger64.result = elim (cases_lt c.larger64.result 4294967296)
    [ inl lt ↦ absurd (c.in-Err.ensures lt) | inr le ↦ omega arith ] in
    found-none body.image.now body.end c.args.pc (numbers_of c.args.potentials.now).steps c.instr-i.result.now
    c.asked_over-along.result c.asked_over-branching.result c.coefficients_join-coefficients.result c.owed.result c.owed-2.result c.larger64.result
    (omega (arith, body.room)) c.instr-i.ensures.there (c.asked_over-along.ensures.steps forward none)
    (c.asked_over-branching.ensures.steps forward none) joined c.owed.ensures c.owed-2.ensures is past
