use Rattle.std.proofs.Common.{ℕ, List, [], sym, ap, ◌∙◌}
use Rattle.std.specs.Prelude.{slice_index}
use Rattle.geos_potentials.specs.Demands.{kept_over}
use Rattle.geos_potentials.proofs.Demand.{some-back-wanted, grows}
use Rattle.geos_potentials.proofs.Growing.{raised-at-loops}
use Rattle.geos_potentials.proofs.spread.go_back_free_over.Goals as goal

pub returns-in-Some-clause-wanted : goal.returns-in-Some-clause-wanted
returns-in-Some-clause-wanted c =
    some-back-wanted c.args.graph.now.arcs c.args.spread.now c.raise.new.spread c.args.pc c.args.branch c.in-Some.arc
    c.without-numbers.result (sym c.arc.ensures ∙ c.in-Some.is)
    (λ k some. c.without-numbers.ensures.others k some ∙ ap (λ (xs : List ℕ). slice_index xs k)
    (c.kept.ensures ∙ ap (kept_over c.in-Some.arc.counting) (c.get.ensures [])))
    c.raise.ensures.raised

pub returns-in-Some-clause-more : goal.returns-in-Some-clause-more
returns-in-Some-clause-more c = grows c.args.spread.now c.raise.new.spread c.args.pc c.without-numbers.result c.raise.ensures.raised

pub returns-in-Some-clause-stay : goal.returns-in-Some-clause-stay
returns-in-Some-clause-stay c =
    raised-at-loops c.args.graph.now.arcs c.args.jumps.now c.args.spread.now c.raise.new.spread c.args.pc c.without-numbers.result
    c.raise.ensures.raised
    (λ k arc read takes busy. c.without-numbers.ensures.none k (c.counter_at.ensures arc k read takes busy))
