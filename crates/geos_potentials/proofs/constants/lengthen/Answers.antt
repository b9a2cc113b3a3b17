use Rattle.std.proofs.Common.{refl, ◌∙◌}
use Rattle.geos_potentials.proofs.Costs.{stay-on}
use Rattle.geos_potentials.proofs.constants.lengthen.Goals as goal

pub returns-then-are_longest-clause-below : goal.returns-then-are_longest-clause-below
returns-then-are_longest-clause-below c =
    (stay-on c.args.units.now.lengths c.loop.units.lengths c.loop.units.lengths c.are_longest.new.units.lengths c.loop.invariant.0
    c.loop.invariant.1 refl c.are_longest.ensures.links c.are_longest.ensures.below).1

pub loop-preserved : goal.loop-preserved
loop-preserved c =
    let on = stay-on c.args.units.now.lengths c.loop.units.lengths c.loop.units.lengths c.are_longest.new.units.lengths
    c.loop.invariant.0 c.loop.invariant.1 refl c.are_longest.ensures.links c.are_longest.ensures.below in
    (on.0, on.1, c.are_longest.ensures.pay ∙ c.loop.invariant.2)
