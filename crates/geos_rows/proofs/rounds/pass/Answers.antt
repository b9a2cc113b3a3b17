use Rattle.std.proofs.Common.{List, Option, sym, subst}
use Rattle.geos_image.specs.declared.row.Row.{Row}
use Rattle.geos_rows.specs.Alike.{AllComeAlike}
use Rattle.geos_rows.proofs.Joinable.{brings-alike}
use Rattle.geos_rows.proofs.rounds.pass.Goals.{then-not-is_join, else-not-is_join}
use Rattle.geos_rows.proofs.rounds.pass.Goals as goal

pub returns-after-not-is_join-clause-alike : goal.returns-after-not-is_join-clause-alike
returns-after-not-is_join-clause-alike c = λ goes meet all.
    let body = c.args.body.now in
    let image = body.image.now in
    let spread = c.spread-arrival.new.known in
    let came = brings-alike image body.r c.args.lead c.args.row.now c.args.known.now spread c.spread-arrival.result goes
    c.spread-arrival.ensures.arrives meet all in (
      came.0,
      elim c.if-not-is_join.branch [
        | then-not-is_join w ↦ subst (λ (l : List (Option Row)). AllComeAlike image body.r l) (sym w.known-is)
            (w.widen.ensures.alike came.1)
        | else-not-is_join w ↦ subst (λ (l : List (Option Row)). AllComeAlike image body.r l) (sym w.known-is) came.1
      ],
    )

pub returns-in_default-clause-alike : goal.returns-in_default-clause-alike
returns-in_default-clause-alike c = λ goes meet all.
    let body = c.args.body.now in
    brings-alike body.image.now body.r c.args.lead c.args.row.now c.args.known.now c.spread-arrival.new.known c.spread-arrival.result goes
    c.spread-arrival.ensures.arrives meet all
