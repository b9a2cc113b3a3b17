use Rattle.std.proofs.Common.{sym, ◌∙◌, subst}
use Rattle.geos_potentials.specs.Demands.{AreRaised}
use Rattle.geos_potentials.proofs.Demand.{loop-wanted, grows}
use Rattle.geos_potentials.proofs.units.Units.raise_at_loop.Goals as goal

pub returns-in-Some-takes-clause-wanted : goal.returns-in-Some-takes-clause-wanted
returns-in-Some-takes-clause-wanted c =
    let old = c.args.self.now.pay in
    let next = c.raise.new.spread in
    let raised = subst (AreRaised old next c.args.pc) c.only-units.ensures c.raise.ensures.raised in
    loop-wanted c.args.graph.now.arcs old next c.args.pc c.in-Some-takes.counter c.args.unit c.in-Some.arc
    (sym c.arc.ensures ∙ c.in-Some.is) (sym c.takes.ensures ∙ c.in-Some-takes.is) raised

pub returns-in-Some-takes-clause-more : goal.returns-in-Some-takes-clause-more
returns-in-Some-takes-clause-more c = grows c.args.self.now.pay c.raise.new.spread c.args.pc c.only-units.result c.raise.ensures.raised

pub returns-in-Some-takes-clause-others : goal.returns-in-Some-takes-clause-others
returns-in-Some-takes-clause-others c = c.raise.ensures.raised.others
