use Rattle.std.proofs.Common.{◌≢◌, List, Option, None, Some, ap, ◌∙◌, arith}
use Rattle.std.proofs.lemmas.List.{get_or-set_other}
use Rattle.geos_image.specs.declared.row.Row.{Row}
use Rattle.geos_code.specs.Known.{known_at}
use Rattle.geos_code.proofs.Ends.{code-length}
use Rattle.geos_rows.proofs.Seeding.{seeded}
use Rattle.geos_rows.proofs.seeds.seed_entry.Goals as goal

pub returns-clause-seeded : goal.returns-clause-seeded
returns-clause-seeded c =
    let body = c.args.body.now in
    let image = body.image.now in
    seeded image body.r body.start body.end c.routine.result.now c.fill_from.new.self c.set.new.self c.routine.ensures
    body.begins body.ends (λ pc low high. c.fill_from.ensures.same pc None low (omega (arith, high, body.some, body.room, body.short)))
    c.set.ensures
    (omega (arith, c.lengths.ensures, body.some, body.room, body.short)) (omega (arith, code-length image, c.lengths.ensures, body.short))

pub returns-clause-stays : goal.returns-clause-stays
returns-clause-stays c = λ k lt.
    let body = c.args.body.now in
    let entry = Some c.routine.result.now.entry in
    let ne : k ≢ body.start = (λ same. absurd (omega (arith, lt, same))) in
    ap (λ (known : List (Option Row)). known_at known k) c.set.ensures ∙ get_or-set_other c.fill_from.new.self body.start k entry None ne
    ∙ c.fill_from.ensures.stays k None lt
