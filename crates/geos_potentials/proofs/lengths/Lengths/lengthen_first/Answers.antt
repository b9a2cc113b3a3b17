use Rattle.std.proofs.Common.{List, Option, refl, sym, ◌∙◌, subst}
use Rattle.geos_potentials.specs.Least.{PayAll}
use Rattle.geos_potentials.specs.declared.lengths.Link.{Link}
use Rattle.geos_potentials.proofs.lengths.Lengths.lengthen_first.Goals as goal

pub loop-pc-init : goal.loop-pc-init
loop-pc-init c = record { links = refl; below = λ want pays most. most }

pub loop-pc-preserved : goal.loop-pc-preserved
loop-pc-preserved c =
    let inv = c.loop-pc.invariant in record {
      links = c.lengthen.ensures.links ∙ inv.links;
      below = λ want pays most. c.lengthen.ensures.below want
          (subst (λ (links : List (List (Option Link))). PayAll links want) (sym inv.links) pays) (inv.below want pays most);
    }

pub returns-then-lengthen-clause-below : goal.returns-then-lengthen-clause-below
returns-then-lengthen-clause-below c = λ want pays most.
    let inv = c.loop-pc.invariant in
    c.lengthen.ensures.below want (subst (λ (links : List (List (Option Link))). PayAll links want) (sym inv.links) pays) (inv.below want pays most)
