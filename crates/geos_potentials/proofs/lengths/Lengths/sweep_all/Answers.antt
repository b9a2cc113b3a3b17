use Rattle.std.proofs.Common.{List, Option, sym, subst}
use Rattle.geos_potentials.specs.Least.{PayAll}
use Rattle.geos_potentials.specs.declared.lengths.Link.{Link}
use Rattle.geos_potentials.proofs.lengths.Lengths.sweep_all.Goals as goal

pub returns-clause-below : goal.returns-clause-below
returns-clause-below c = λ want pays most. c.lengthen_first.ensures.below want
    (subst (λ (links : List (List (Option Link))). PayAll links want) (sym c.sweep.ensures.links) pays) (c.sweep.ensures.below want pays most)
