use Rattle.std.proofs.Common.{sym, ◌∙◌}
use Rattle.geos_explain.specs.Places.{place_of}
use Rattle.geos_explain.proofs.Serving.{said_of_words}
use Rattle.geos_explain.proofs.budgets.put_any_item.Goals as goal

pub put_any-requires : goal.put_any-requires
put_any-requires c = said_of_words (place_of c.args.place.now) c.in-Some.from (sym c.setting_to_any.ensures ∙ c.in-Some.is)
