use Rattle.loop_causes.proofs.Longest.{none-other}
use Rattle.loop_causes.proofs.laws.no_other_cause_holds.Goals as goal

pub returns : goal.returns
returns c = none-other
