use Rattle.std.proofs.Common.{◌≡◌, ◌<◌, [], length, refl, arith, rules}
use Rattle.geos_potentials.proofs.Demand.{raised-set, raised-same}
use Rattle.geos_potentials.proofs.Growing.{less-work, differ}
use Rattle.geos_potentials.proofs.spread.raise.Goals as goal

pub returns-then-ne-clause-raised : goal.returns-then-ne-clause-raised
returns-then-ne-clause-raised c =
    let room : c.args.pc < length c.args.spread.now = omega (arith, c.lengths.ensures) in
    raised-set c.args.spread.now c.set.new.self c.args.pc c.get.result.now c.args.numbers.now c.greatest-next.result
    (c.get.ensures []) c.greatest-next.ensures.value c.greatest-next.ensures.four room c.set.ensures

pub returns-then-ne-clause-work : goal.returns-then-ne-clause-work
returns-then-ne-clause-work c =
    let room : c.args.pc < length c.args.spread.now = omega (arith, c.lengths.ensures) in
    less-work c.args.spread.now c.set.new.self c.args.pc c.get.result.now c.args.numbers.now c.greatest-next.result
    c.args.waits.now.count c.put.new.self.count (c.get.ensures []) c.greatest-next.ensures.value c.greatest-next.ensures.four room
    (λ k. (let fits = c.fits-numbers k in omega arith))
    (differ c.greatest-next.result c.get.result.now c.ne.result c.ne.ensures c.if-ne.true) c.set.ensures c.put.ensures.count

pub returns-else-ne-clause-raised : goal.returns-else-ne-clause-raised
returns-else-ne-clause-raised c =
    let equal : c.greatest-next.result ≡ c.get.result.now = search rules in
    raised-same c.args.spread.now c.args.spread.now c.args.pc c.get.result.now c.args.numbers.now c.greatest-next.result
    (c.get.ensures []) c.greatest-next.ensures.value c.greatest-next.ensures.four equal refl
