use Rattle.geos_potentials.proofs.units.Units.pay_round.Goals as goal

pub loop-id-preserved-in-Continue-1 : goal.loop-id-preserved-in-Continue-1
loop-id-preserved-in-Continue-1 c = λ before. c.pay.ensures (c.loop-id.invariant before)

pub returns-in_err-pay : goal.returns-in_err-pay
returns-in_err-pay c = λ before. c.pay.ensures (c.loop-id.invariant before)
