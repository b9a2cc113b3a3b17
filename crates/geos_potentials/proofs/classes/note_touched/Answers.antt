use Rattle.std.proofs.Common.{sym, ◌∙◌, subst}
use Rattle.geos_code.specs.Code.{IsPcOf}
use Rattle.geos_potentials.specs.Spreads.{ComeBehind, ForgetsIt}
use Rattle.geos_code.proofs.Bodies.{in-body}
use Rattle.geos_potentials.proofs.Spreading.{none-behind, filled-none, behind-raised, behind-come}
use Rattle.geos_potentials.proofs.classes.note_touched.Goals.{in-Some, in_default}
use Rattle.geos_potentials.proofs.classes.note_touched.Goals as goal

pub loop-pc-init : goal.loop-pc-init
loop-pc-init c =
    let body = c.args.body.now in
    none-behind c.args.graph.now.arcs body.start (IsPcOf body.image.now body.r) ForgetsIt c.fill_from.new.self
    (filled-none body.start c.fill_from.new.self c.lengths.ensures c.fill_from.ensures.same)

pub loop-pc-preserved : goal.loop-pc-preserved
loop-pc-preserved c =
    let body = c.args.body.now in
    let arcs = c.args.graph.now.arcs in
    let p = c.loop-pc.pc in elim c.match-arc.branch [
      | in-Some w ↦ subst (ComeBehind arcs body.start (IsPcOf body.image.now body.r) ForgetsIt) (sym w.touched-is)
          (behind-raised arcs body.start (IsPcOf body.image.now body.r) ForgetsIt c.loop-pc.touched w.raise.new.spread p w.in-Some.arc
          w.forgets.result (in-body body p c.loop-pc.auto.pc c.loop-pc-test.true) (sym c.arc.ensures ∙ w.in-Some.is) w.forgets.ensures
          w.raise.ensures.raised c.loop-pc.invariant)
      | in_default w ↦ subst (ComeBehind arcs body.start (IsPcOf body.image.now body.r) ForgetsIt) (sym w.touched-is) c.loop-pc.invariant
    ]

pub returns : goal.returns
returns c =
    let body = c.args.body.now in
    behind-come c.args.graph.now.arcs body.start (IsPcOf body.image.now body.r) ForgetsIt c.loop-pc.touched c.go_on.new.spread
    c.loop-pc.invariant c.go_on.ensures
