use Rattle.std.proofs.Common.{refl, sym, ◌∙◌}
use Rattle.std.proofs.lemmas.Bool.{false≢true}
use Rattle.geos_rows.proofs.Fitting.{copies-in}
use Rattle.geos_rows.proofs.Joinable.{copies-alike}
use Rattle.geos_rows.proofs.descent.descend.Goals as goal

pub returns-then-not-seed : goal.returns-then-not-seed
returns-then-not-seed c = λ meet all.
    absurd (false≢true (sym c.if-not-seed.true ∙ (c.seed.ensures meet (c.loop.invariant meet all).1).0))

pub returns-then-not-flow : goal.returns-then-not-flow
returns-then-not-flow c = λ meet all.
    let body = c.args.body.now in
    let from = c.seed.new.from in
    let seeded = c.seed.ensures meet (c.loop.invariant meet all).1 in
    let copied = copies-alike body.image.now body.r from c.loop.known c.copy_rows.new.known
    (copies-in body from c.loop.known c.copy_rows.new.known c.copy_rows.ensures) seeded.1 in
    absurd (false≢true (sym c.if-not-flow.true ∙ (c.flow.ensures.alike meet copied).0))

pub loop-preserved : goal.loop-preserved
loop-preserved c = λ meet all.
    let body = c.args.body.now in
    let from = c.seed.new.from in
    let seeded = c.seed.ensures meet (c.loop.invariant meet all).1 in
    let copied = copies-alike body.image.now body.r from c.loop.known c.copy_rows.new.known
    (copies-in body from c.loop.known c.copy_rows.new.known c.copy_rows.ensures) seeded.1 in
    (refl, (c.flow.ensures.alike meet copied).1)
