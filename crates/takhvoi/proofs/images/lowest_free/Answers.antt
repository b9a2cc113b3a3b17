-- Each number up to this one has an image.
use Rattle.std.proofs.Common.{◌≡◌, rules, false, is_none, subst}
use Rattle.takhvoi.proofs.Numbers.{not_none, some_below}
use Rattle.takhvoi.proofs.images.lowest_free.Goals as goal

pub loop-n-preserved : goal.loop-n-preserved
loop-n-preserved c =
    some_below c.args.images.now.items c.loop-n.n _ (search rules)
    (subst (λ o. is_none o ≡ false) c.index.ensures (not_none _ _ c.is_none.ensures c.if-is_none.false)) c.loop-n.invariant
