use Rattle.std.proofs.Common.{sym, ◌∙◌}
use Rattle.geos_explain.specs.Places.{place_of}
use Rattle.geos_explain.proofs.Serving.{said_of_counters}
use Rattle.geos_explain.proofs.budgets.put_unset_item.Goals as goal

pub put_unset_loop-requires : goal.put_unset_loop-requires
put_unset_loop-requires c = said_of_counters (place_of c.args.place.now) c.args.k c.in-Some.pc (sym c.unset_loop.ensures ∙ c.in-Some.is)
