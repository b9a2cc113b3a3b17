use Rattle.std.proofs.Common.{refl, arith}
use Rattle.geos_potentials.proofs.units.Units.link.Goals as goal

pub returns : goal.returns
returns c = record {
  to = refl;
  costs = omega (
    arith,
    c.saturating_add.ensures,
    c.steps.ensures.value,
    c.steps.ensures.small,
    c.price.ensures.value,
    c.price.ensures.small,
  );
  paid = c.paid.ensures.value;
  small = c.paid.ensures.small;
}
