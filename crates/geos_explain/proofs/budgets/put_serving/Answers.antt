use Rattle.std.proofs.Common.{sym, ◌∙◌}
use Rattle.geos_explain.specs.Places.{place_of}
use Rattle.geos_explain.proofs.Serving.{said_of_budgets}
use Rattle.geos_explain.proofs.budgets.put_serving.Goals as goal

pub put_never_served-requires : goal.put_never_served-requires
put_never_served-requires c = said_of_budgets (place_of c.args.place.now) c.in-Some.from (sym c.calling_on.ensures ∙ c.in-Some.is)
