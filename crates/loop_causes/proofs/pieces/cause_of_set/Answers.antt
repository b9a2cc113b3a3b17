use Rattle.std.proofs.Common.{refl}
use Rattle.loop_causes.proofs.pieces.cause_of_set.Goals as goal

pub returns-in-Some-clause-tells : goal.returns-in-Some-clause-tells
returns-in-Some-clause-tells c = record { pc = c.in-Some.within.back.from; there = c.in-Some.ensures.place; loop = refl }
