use Rattle.std.proofs.Common.{arith}
use Rattle.geos_flow.proofs.Taking.{few-marked}
use Rattle.geos_flow.proofs.waiting.Waiting.take.Goals as goal

pub bounds-self-from : goal.bounds-self-from
bounds-self-from c =
    let few = few-marked c.args.self.now c.requires.kept in
    omega (arith, c.from.ensures, c.requires.kept.next, c.if-self.false, few)
