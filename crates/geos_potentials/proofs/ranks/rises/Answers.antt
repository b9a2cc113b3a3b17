use Rattle.std.proofs.Common.{◌≡◌, ◌<◌, ℕ, sym, ◌∙◌, subst, arith}
use Rattle.std.specs.Prelude.{slice_index}
use Rattle.std.proofs.lemmas.Bool.{ltb-true}
use Rattle.std.proofs.lemmas.Option.{none-some, same_Some}
use Rattle.geos_potentials.proofs.ranks.rises.Goals as goal

pub returns-in-Some : goal.returns-in-Some
returns-in-Some c = λ is to lead.
    let ranks = c.args.ranks.now in
    let same : c.in-Some.to ≡ to = same_Some c.in-Some.to to (sym c.in-Some.is ∙ c.lead_idle.ensures.all to c.requires.noted lead) in
    let less : c.at.result < c.at-in-Some.result = ltb-true c.at.result c.at-in-Some.result is in
    let first : c.at.result ≡ slice_index ranks c.args.pc = c.at.ensures 0 in
    let second : c.at-in-Some.result ≡ slice_index ranks c.in-Some.to = c.at-in-Some.ensures 0 in
    subst (λ (n : ℕ). slice_index ranks c.args.pc < slice_index ranks n) same (omega (arith, less, first, second))

pub returns-in-None : goal.returns-in-None
returns-in-None c = λ is to lead. absurd (none-some to (sym c.in-None.is ∙ c.lead_idle.ensures.all to c.requires.noted lead))
