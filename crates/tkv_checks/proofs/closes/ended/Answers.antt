use Rattle.std.proofs.Common.{refl}
use Rattle.tkv_checks.specs.declared.places.Place.{Place}
use Rattle.tkv_checks.specs.declared.places.Open.TheVariants as opened
use Rattle.tkv_checks.specs.Places.{IsWithin}
use Rattle.tkv_checks.specs.Walks.{Closes}
use Rattle.tkv_checks.proofs.Closings.{block_closes, of_some}
use Rattle.tkv_checks.proofs.closes.ended.Goals as goal

pub returns-then-are_one : goal.returns-then-are_one
returns-then-are_one c image = of_some (IsWithin c.args.after) (IsWithin c.args.end) (Closes image c.args.bracket.now (opened.Block c.args.end) c.args.after)
    (λ (next : Place) one other. block_closes image c.args.bracket.now c.args.end c.args.after next c.in-Block.is (c.if-are_one.ensures refl) one other)
    c.joined.result c.joined.ensures.one c.joined.ensures.other
