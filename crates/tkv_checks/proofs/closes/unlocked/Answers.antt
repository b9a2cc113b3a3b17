use Rattle.std.proofs.Common.{refl}
use Rattle.tkv_checks.specs.declared.places.Place.{Place}
use Rattle.tkv_checks.specs.declared.places.Open.TheVariants as opened
use Rattle.tkv_checks.specs.Walks.{IsPast, Closes}
use Rattle.tkv_checks.proofs.Closings.{closing_closes, of_some}
use Rattle.tkv_checks.proofs.closes.unlocked.Goals as goal

pub returns-then-continues : goal.returns-then-continues
returns-then-continues c = of_some (IsPast c.args.image.now c.args.instr.now c.args.after) (IsPast c.args.image.now c.args.instr.now c.args.after)
    (Closes c.args.image.now c.args.bracket.now (opened.Closing c.args.instr.now) c.args.after)
    (λ (next : Place) past same. closing_closes c.args.image.now c.args.bracket.now c.args.instr.now c.args.after next c.in-Closing.is
    (c.if-are_same.ensures refl) (c.if-are_one.ensures refl) (c.if-continues.ensures refl) past) c.past.result c.past.ensures c.past.ensures
