use Rattle.std.proofs.Common.{[], sym, ap, ◌∙◌}
use Rattle.geos_potentials.specs.Demands.{kept_over}
use Rattle.geos_potentials.proofs.Demand.{back-wanted, grows}
use Rattle.geos_potentials.proofs.spread.go_back_over.Goals as goal

pub returns-in-Some-clause-wanted : goal.returns-in-Some-clause-wanted
returns-in-Some-clause-wanted c =
    back-wanted c.args.graph.now.arcs c.args.spread.now c.raise.new.spread c.args.pc c.args.branch c.in-Some.arc
    c.kept-numbers.result (sym c.arc.ensures ∙ c.in-Some.is) (c.kept-numbers.ensures ∙ ap (kept_over c.in-Some.arc.counting) (c.get.ensures []))
    c.raise.ensures.raised

pub returns-in-Some-clause-more : goal.returns-in-Some-clause-more
returns-in-Some-clause-more c = grows c.args.spread.now c.raise.new.spread c.args.pc c.kept-numbers.result c.raise.ensures.raised
