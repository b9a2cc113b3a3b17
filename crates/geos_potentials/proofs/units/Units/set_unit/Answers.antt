use Rattle.std.proofs.Common.{sym, subst}
use Rattle.geos_potentials.specs.Demands.{AreWanted}
use Rattle.geos_potentials.specs.declared.units.Units.{Units}
use Rattle.geos_potentials.proofs.units.Units.set_unit.Goals.{then-pays_in, else-pays_in}
use Rattle.geos_potentials.proofs.units.Units.set_unit.Goals as goal

pub loop-x-preserved : goal.loop-x-preserved
loop-x-preserved c = λ before.
    let arcs = c.args.graph.now.arcs in elim c.if-pays_in.branch [
      | then-pays_in w ↦ subst (λ (u : Units). AreWanted arcs u.pay) (sym w.self-is) (w.raise_at_loop.ensures.wanted (c.loop-x.invariant before))
      | else-pays_in w ↦ subst (λ (u : Units). AreWanted arcs u.pay) (sym w.self-is) (c.loop-x.invariant before)
    ]

pub returns : goal.returns
returns c = λ before. c.carry.ensures (c.loop-x.invariant before)
