use Rattle.std.proofs.Common.{◌≡◌, true, sym, ◌∙◌, subst}
use Rattle.geos_image.specs.declared.potential.Potential.{Potential}
use Rattle.geos_verify.specs.Potentials.{is_paid}
use Rattle.geos_verify.specs.declared.asked.Asked.{Asked}
use Rattle.geos_potentials.specs.Constants.{IsAsked, potential_in}
use Rattle.geos_potentials.specs.Numbers.{numbers_of}
use Rattle.geos_potentials.proofs.Numbered.{numbers-at}
use Rattle.geos_potentials.proofs.Priced.{potential-at}
use Rattle.geos_potentials.proofs.paid.is_paid_over.Goals as goal

pub returns-in-Some : goal.returns-in-Some
returns-in-Some c = λ is to leads inside.
    let body = c.args.body.now in
    let pc = c.args.pc in
    let numbers = numbers_of c.args.potentials.now in
    let asks = subst (IsAsked body.image.now body.r c.args.known.now numbers pc c.args.branch) c.in-Some.is c.asked_over.ensures.asks in
    let here = numbers-at c.args.potentials.now pc c.at.result c.at.ensures in
    let same : c.at.result ≡ potential_in numbers pc = potential-at numbers pc c.at.result here.0 here.1 in
    subst (λ (asked : Asked). is_paid asked (potential_in numbers pc) ≡ true) (asks to leads inside)
    (subst (λ (p : Potential). is_paid c.in-Some.asked p ≡ true) same (sym c.is_paid.ensures ∙ is))
