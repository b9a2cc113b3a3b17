use Rattle.std.proofs.Common.{◌≡◌, ℕ, Bool, true, false, inl, inr, sym, subst, arith}
use Rattle.std.proofs.lemmas.Bool.{cases_lt}
use Rattle.control_graph.specs.Arcs.{arc_at}
use Rattle.geos_potentials.specs.Arcs.{IsArcIf}
use Rattle.geos_potentials.proofs.counting.note_edges.Goals as goal

pub loop-pc-init : goal.loop-pc-init
loop-pc-init c = λ pc branch within lt. (let body = c.args.body.now in absurd (omega (arith, within.above, lt, body.begins)))

pub loop-pc-preserved : goal.loop-pc-preserved
loop-pc-preserved c = λ pc branch within lt.
    let p = c.loop-pc.pc in
    let body = c.args.body.now in
    elim (cases_lt pc p) [
      | inl earlier ↦ subst (IsArcIf body.image.now body.r c.args.known.now c.args.touched.now pc branch)
          (sym (c.add.ensures.others pc branch (λ same. omega (arith, same, earlier)))) (c.loop-pc.invariant pc branch within earlier)
      | inr late ↦
          let same : p ≡ pc = omega (arith, lt, late) in
          subst (λ (n : ℕ). IsArcIf body.image.now body.r c.args.known.now c.args.touched.now n branch
          (arc_at c.add.new.self.arcs n branch)) same (here branch)
    ]
  where
    here : (branch : Bool) → IsArcIf c.args.body.now.image.now c.args.body.now.r c.args.known.now c.args.touched.now
        c.loop-pc.pc branch (arc_at c.add.new.self.arcs c.loop-pc.pc branch)
    here true = subst (IsArcIf c.args.body.now.image.now c.args.body.now.r c.args.known.now c.args.touched.now c.loop-pc.pc true)
        (sym (c.add.ensures.here true)) c.arc_of-branching.ensures
    here false = subst (IsArcIf c.args.body.now.image.now c.args.body.now.r c.args.known.now c.args.touched.now c.loop-pc.pc false)
        (sym (c.add.ensures.here false)) c.arc_of-along.ensures
