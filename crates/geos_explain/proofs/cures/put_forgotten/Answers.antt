use Rattle.std.proofs.Common.{sym, ◌∙◌}
use Rattle.geos_explain.specs.Places.{place_of}
use Rattle.geos_explain.proofs.Forgetting.{said_of_calls}
use Rattle.geos_explain.proofs.cures.put_forgotten.Goals as goal

pub put_forgotten_at-requires : goal.put_forgotten_at-requires
put_forgotten_at-requires c = said_of_calls (place_of c.args.place.now) c.args.item c.in-Some.from (sym c.forgetting_call.ensures ∙ c.in-Some.is)
