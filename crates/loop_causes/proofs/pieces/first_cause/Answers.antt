use Rattle.loop_causes.proofs.pieces.first_cause.Goals as goal

pub returns-in-Some-clause-tells : goal.returns-in-Some-clause-tells
returns-in-Some-clause-tells c = record { pc = c.loop-pc.pc; there = c.has.ensures.0 c.if-has.true; loop = c.in-Some.ensures.at }
