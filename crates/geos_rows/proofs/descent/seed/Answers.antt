use Rattle.std.proofs.Common.{List, Option, None, true, sym, ◌∙◌, subst}
use Rattle.std.proofs.lemmas.Bool.{false≢true}
use Rattle.geos_image.specs.declared.row.Row.{Row}
use Rattle.geos_rows.specs.Alike.{AllComeAlike}
use Rattle.geos_verify.proofs.Places.{item_at}
use Rattle.geos_code.proofs.Bodies.{in-body}
use Rattle.geos_rows.proofs.Joinable.{goes-alike, brings-alike, seeded-alike}
use Rattle.geos_rows.proofs.descent.seed.Goals.{else-lead-pc-via-then-lead-pc+else-not-has_joined, else-lead-pc-via-else-lead-pc}
use Rattle.geos_rows.proofs.descent.seed.Goals as goal

pub loop-pc-init : goal.loop-pc-init
loop-pc-init c = λ meet all.
    let body = c.args.body.now in
    let image = body.image.now in
    let routine = item_at image.routines body.r body.there in
    seeded-alike image body.r routine.0 routine.1 c.seed_entry.new.known c.seed_entry.ensures.seeded

pub returns-then-not-has_joined : goal.returns-then-not-has_joined
returns-then-not-has_joined c = λ meet all.
    let body = c.args.body.now in
    let image = body.image.now in
    let pc = c.loop-pc.pc in
    let lead = c.in-Some-edge_in.lead in
    let said = c.in-Some-edge_in.ensures in
    let comes = all pc c.in-Some.row (in-body body pc c.loop-pc.auto.pc c.loop-pc-test.true) (sym (c.at.ensures None) ∙ c.in-Some.is) in
    let goes = goes-alike image body.r pc true lead c.in-Some.row said.inside.from said.inside.way said.leads said.stays comes in
    let came = brings-alike image body.r lead c.in-Some.row c.loop-pc.from c.spread.new.known c.spread.result goes c.spread.ensures.arrives
    meet (c.loop-pc.invariant meet all) in
    absurd (false≢true (sym c.if-not-has_joined.true ∙ c.has_joined.ensures ∙ came.0))

pub loop-pc-preserved : goal.loop-pc-preserved
loop-pc-preserved c = λ meet all.
    let body = c.args.body.now in
    let image = body.image.now in
    let pc = c.loop-pc.pc in
    let lead = c.in-Some-edge_in.lead in
    let said = c.in-Some-edge_in.ensures in
    let comes = all pc c.in-Some.row (in-body body pc c.loop-pc.auto.pc c.loop-pc-test.true) (sym (c.at.ensures None) ∙ c.in-Some.is) in
    let goes = goes-alike image body.r pc true lead c.in-Some.row said.inside.from said.inside.way said.leads said.stays comes in
    let so_far = c.loop-pc.invariant meet all in
    elim c.else-lead-pc.branch [
      | else-lead-pc-via-then-lead-pc+else-not-has_joined w ↦
          let came = brings-alike image body.r lead c.in-Some.row c.loop-pc.from w.spread.new.known w.spread.result goes w.spread.ensures.arrives
          meet so_far in
          subst (λ (l : List (Option Row)). AllComeAlike image body.r l) (sym w.from-is) came.1
      | else-lead-pc-via-else-lead-pc w ↦ subst (λ (l : List (Option Row)). AllComeAlike image body.r l) (sym w.from-is) so_far
    ]
