use Rattle.std.proofs.Common.{◌+◌, List, Option, None, sym, ap, ◌∙◌, subst, arith}
use Rattle.geos_image.specs.declared.row.Row.{Row}
use Rattle.geos_rows.specs.Weakest.{weakest_of, Weakens}
use Rattle.geos_rows.proofs.Weakening.{weakens-none, weakens-more, weakens-to}
use Rattle.geos_rows.proofs.weakest.fill.Goals as goal

pub loop-pc-init : goal.loop-pc-init
loop-pc-init c = weakens-none c.args.body.now.start c.args.comings.now c.args.known.now

pub loop-pc-preserved : goal.loop-pc-preserved
loop-pc-preserved c =
    let body = c.args.body.now in
    let comings = c.args.comings.now in
    let pc = c.loop-pc.pc in
    let more = weakens-more body.start pc comings c.args.known.now c.loop-pc.known c.weakest_of.result c.loop-pc.auto.pc
    (omega (arith, c.loop-pc.invariant.len, c.lengths.ensures, c.loop-pc-test.true, body.room, body.short))
    (c.weakest_of.ensures ∙ ap weakest_of (c.at.ensures None)) c.loop-pc.invariant in
    subst (λ (next : List (Option Row)). Weakens body.start (pc + 1) comings c.args.known.now next) (sym c.set.ensures) more

pub returns : goal.returns
returns c = weakens-to c.args.body.now.start c.loop-pc.pc c.args.body.now.end c.args.comings.now c.args.known.now c.loop-pc.known
    (omega (arith, c.loop-pc-test.false)) c.loop-pc.invariant
