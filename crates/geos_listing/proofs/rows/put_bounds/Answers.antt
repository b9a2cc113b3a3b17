use Rattle.std.proofs.Common.{ℕ, refl, arith, rules}
use Rattle.std.specs.Prelude.{slice_index}
use Rattle.std.proofs.lemmas.List.Elements.{All-more}
use Rattle.geos_image.specs.Ranges.{IsWord}
use Rattle.geos_listing.specs.Rows.{bound_item}
use Rattle.geos_listing.proofs.Texts.{texts_below-step}
use Rattle.geos_listing.proofs.rows.put_bounds.Goals as goal

pub loop-i-preserved : goal.loop-i-preserved
loop-i-preserved c = (
  texts_below-step _ _ _ _ (λ (i : ℕ). bound_item i (slice_index c.args.bounds.now i)) c.loop-i.i c.loop-i.invariant.0 c.in_ok-put_bound.ensures refl,
  All-more IsWord c.args.bounds.now c.loop-i.i 0 (omega arith) c.loop-i.invariant.1 (search rules),
)
