use Rattle.std.proofs.Common.{inl}
use Rattle.geos_diagnosis.proofs.Telling.{setting-passes}
use Rattle.geos_diagnosis.proofs.diagnosis.cause_of_passing.Goals as goal

pub returns-in-Some-clause-tells : goal.returns-in-Some-clause-tells
returns-in-Some-clause-tells c = inl c.in-Some.ensures.tells

pub returns-clause-tells : goal.returns-clause-tells
returns-clause-tells c = setting-passes c.find_dear.result c.find_dear.ensures.tells
