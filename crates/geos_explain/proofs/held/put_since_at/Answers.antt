use Rattle.std.proofs.Common.{sym, subst}
use Rattle.geos_explain.specs.Places.{place_of}
use Rattle.geos_explain.specs.Since.{IsSaidOf}
use Rattle.geos_explain.proofs.Holding.{said_of_slots}
use Rattle.geos_explain.proofs.held.put_since_at.Goals as goal

pub put_since-requires : goal.put_since-requires
put_since-requires c =
    let place = place_of c.args.place.now in
    subst (IsSaidOf place c.args.a) (sym c.held_since-since.ensures) (said_of_slots place c.args.a)
