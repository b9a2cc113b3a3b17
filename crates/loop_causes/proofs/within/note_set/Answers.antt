use Rattle.std.proofs.Common.{◌≡◌, ◌<◌, ℕ, subst, arith, inl, inr}
use Rattle.std.proofs.lemmas.Bool.{cases_eq}
use Rattle.control_graph.specs.Orders.{StandsAt}
use Rattle.control_graph.proofs.Placing.{same-stands}
use Rattle.loop_causes.specs.Noted.{SetsIn}
use Rattle.loop_causes.proofs.within.note_set.Goals as goal

pub loop-x-preserved : goal.loop-x-preserved
loop-x-preserved c = λ x pc arc above below stands sets. elim (cases_eq x c.loop-x.x) [
  | inl same ↦
      let order = c.args.order.now in
      let here = subst (λ (n : ℕ). StandsAt order n pc) same stands in
      let place : pc ≡ c.place.result = same-stands order c.loop-x.x pc c.place.result here c.place.ensures.stands in
      c.note_set_at.ensures.comes arc
      (subst (λ (n : ℕ). SetsIn c.args.graph.now.arcs order c.args.piece.now c.args.counter n arc) place sets)
  | inr ne ↦ c.note_set_at.ensures.stay arc.to (c.loop-x.invariant x pc arc above (omega (arith, below, ne)) stands sets)
]

pub returns : goal.returns
returns c = λ x pc arc above below stands sets.
    c.go.ensures arc.to (c.loop-x.invariant x pc arc above (omega (arith, below, c.loop-x-test.false)) stands sets)
