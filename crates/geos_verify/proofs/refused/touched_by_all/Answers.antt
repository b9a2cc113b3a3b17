use Rattle.std.proofs.Common.{◌≡◌, refl, subst, arith, add-one}
use Rattle.std.specs.Prelude.{false, replicate}
use Rattle.geos_verify.specs.Refused.{KnowsTouchedWithin}
use Rattle.geos_verify.proofs.Touching.{rows-blank, knows-more}
use Rattle.geos_verify.proofs.refused.touched_by_all.Goals as goal

pub loop-round-init : goal.loop-round-init
loop-round-init c b k few = rows-blank (replicate 32 (replicate 4 false)) refl b k

pub loop-round-preserved : goal.loop-round-preserved
loop-round-preserved c =
    let more = knows-more c.args.image.now c.loop-round.table c.touched_once_more-table.result c.loop-round.round
    c.loop-round.invariant c.touched_once_more-table.ensures in
    rw add-one more

pub returns : goal.returns
returns c =
    let all : c.loop-round.round ≡ c.count-round-end.result = omega (arith, c.loop-round-test.false, c.loop-round.auto) in
    let many : c.loop-round.round ≡ _ = omega (arith, all, c.count-round-end.ensures.count) in
    subst (KnowsTouchedWithin c.args.image.now c.loop-round.table) many c.loop-round.invariant
