use Rattle.std.proofs.Common.{◌≡◌, ◌≤◌, ◌*◌, refl, sym, ap, ◌∙◌, arith}
use Rattle.std.proofs.lemmas.Nat.{mul-le}
use Rattle.geos_potentials.specs.Arcs.{unit_at, price_of}
use Rattle.geos_potentials.proofs.units.Units.price.Goals as goal

pub returns-in-Sets : goal.returns-in-Sets
returns-in-Sets c =
    let few : c.from-in-Sets.result ≤ 65535 = omega arith in
    let small : c.from.result ≤ 4294967295 = omega arith in
    let bound = mul-le c.from.result c.from-in-Sets.result 4294967295 65535 small few in
    let product : c.from.result * c.from-in-Sets.result ≡ unit_at c.args.self.now.pay c.args.to c.in-Sets.counter * c.in-Sets.most =
    rw (c.from.ensures, c.unit.ensures, c.from-in-Sets.ensures) refl in
    let whole : c.saturating_mul.result ≡ c.from.result * c.from-in-Sets.result = omega (arith, c.saturating_mul.ensures, bound) in
    record {
      value = whole ∙ product ∙ sym (ap (price_of c.args.self.now.pay c.args.to) c.in-Sets.is);
      small = omega (arith, whole, bound);
    }
