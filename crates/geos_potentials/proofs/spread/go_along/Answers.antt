use Rattle.std.proofs.Common.{[], sym, ap, ◌∙◌}
use Rattle.geos_potentials.specs.Demands.{kept_over}
use Rattle.geos_potentials.proofs.Spreading.{along-come}
use Rattle.geos_potentials.proofs.spread.go_along.Goals as goal

pub returns-in-Some-clause-come : goal.returns-in-Some-clause-come
returns-in-Some-clause-come c =
    along-come c.args.graph.now.arcs c.args.spread.now c.raise.new.spread c.args.pc c.args.branch c.in-Some.arc
    c.kept-numbers.result (sym c.arc.ensures ∙ c.in-Some.is) (c.kept-numbers.ensures ∙ ap (kept_over c.in-Some.arc.counting) (c.get.ensures []))
    c.raise.ensures.raised
