use Rattle.geos_explain.proofs.Serving.{said_of_budgets}
use Rattle.geos_explain.proofs.budgets.what_is_said_of_budgets_holds.Goals as goal

pub returns : goal.returns
returns c = said_of_budgets
