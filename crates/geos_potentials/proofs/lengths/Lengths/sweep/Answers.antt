use Rattle.std.proofs.Common.{List, Option, refl, sym, ◌∙◌, subst}
use Rattle.geos_potentials.specs.Least.{PayAll}
use Rattle.geos_potentials.specs.declared.lengths.Link.{Link}
use Rattle.geos_potentials.specs.declared.lengths.Lengths.{Lengths}
use Rattle.geos_potentials.proofs.lengths.Lengths.sweep.Goals as goal

pub loop-x-init : goal.loop-x-init
loop-x-init c = record {
  links = refl;
  below = λ want pays most. most;
}

pub loop-x-preserved : goal.loop-x-preserved
loop-x-preserved c =
    let next = c.lengthen-longer.ensures in
    let inv = c.loop-x.invariant in record {
      links = next.links ∙ inv.links;
      below = λ want pays most. next.below want
          (subst (λ (links : List (List (Option Link))). PayAll links want) (sym inv.links) pays) (inv.below want pays most);
    }
