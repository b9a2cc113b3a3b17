use Rattle.std.proofs.Common.{◌≡◌, refl, sym, ap, subst, arith}
use Rattle.geos_potentials.specs.Demands.{AreWanted}
use Rattle.geos_potentials.specs.declared.units.Units.{Units}
use Rattle.geos_potentials.proofs.Demand.{filled-wanted}
use Rattle.geos_potentials.proofs.units.Units.pay_all.Goals.{then-round-look_at+in_default, else-round-look_at}
use Rattle.geos_potentials.proofs.units.Units.pay_all.Goals as goal

pub loop-init : goal.loop-init
loop-init c = record {
  wanted = filled-wanted c.args.graph.now.arcs c.fill_from.new.self c.lengths.ensures c.fill_from.ensures.same;
  round = refl;
}

pub loop-preserved : goal.loop-preserved
loop-preserved c =
    let paid : c.pay_round.new.self.pay ≡ c.if-round-look_at.self.pay = elim c.if-round-look_at.branch [
      | then-round-look_at+in_default w ↦ sym (ap (λ (u : Units). u.pay) w.self-is)
      | else-round-look_at w ↦ sym (ap (λ (u : Units). u.pay) w.self-is)
    ] in record {
      wanted = subst (AreWanted c.args.graph.now.arcs) paid (c.pay_round.ensures c.loop.invariant.wanted);
      round = omega (arith, c.loop.invariant.round);
    }
