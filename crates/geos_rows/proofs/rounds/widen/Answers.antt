use Rattle.std.proofs.Common.{List, Option, None, sym, ◌∙◌, subst}
use Rattle.geos_image.specs.declared.row.Row.{Row}
use Rattle.geos_rows.specs.Alike.{AllComeAlike}
use Rattle.geos_rows.proofs.Joinable.{alike-set, comes-slots}
use Rattle.geos_rows.proofs.rounds.widen.Goals as goal

pub returns-in-Some-Some-clause-alike : goal.returns-in-Some-Some-clause-alike
returns-in-Some-Some-clause-alike c = λ all.
    let body = c.args.body.now in
    let image = body.image.now in
    let known = c.args.known.now in
    let joined = c.in-Some-Some.joined in
    subst (λ (l : List (Option Row)). AllComeAlike image body.r l) (sym c.set.ensures)
    (alike-set image body.r known c.args.to c.widened.result all (λ within.
    comes-slots image body.r c.args.to joined c.widened.result c.widened.ensures
    (all c.args.to joined within (sym (c.at.ensures None) ∙ c.in-Some-Some.is-1))))
