use Rattle.std.proofs.Common.{sym, ap, ◌∙◌}
use Rattle.geos_explain.specs.declared.forgotten.Item.{Item}
use Rattle.geos_explain.specs.declared.forgotten.Item.TheVariants.{Bound}
use Rattle.geos_explain.specs.Forgotten.{if_round}
use Rattle.geos_explain.specs.Places.{place_of}
use Rattle.geos_explain.proofs.Forgetting.{said_of_rounds}
use Rattle.geos_explain.proofs.forgotten.put_moved_round.Goals as goal

pub put_moved-requires : goal.put_moved-requires
put_moved-requires c =
    let place = place_of c.args.place.now in
    let item : Item = Bound c.in-Bound.w c.in-Bound.most in
    said_of_rounds place item c.in-Bound.w c.in-Some.from
    (ap (if_round place item) (sym c.last_moving.ensures.last) ∙ sym c.if_round.ensures ∙ c.in-Some.is)
