use Rattle.std.proofs.Common.{ℕ, refl, subst, arith}
use Rattle.std.specs.Prelude.{None, slice_index_or}
use Rattle.std.specs.List.{All}
use Rattle.std.proofs.lemmas.List.{take_all}
use Rattle.std.proofs.lemmas.List.Elements.{All-more}
use Rattle.geos_image.specs.Ranges.{PointerFits}
use Rattle.geos_listing.specs.Rows.{pointer_item}
use Rattle.geos_listing.proofs.Texts.{texts_below-step}
use Rattle.geos_listing.proofs.rows.put_pointers.Goals as goal

pub loop-i-preserved : goal.loop-i-preserved
loop-i-preserved c = (
  texts_below-step _ _ _ _ (λ (i : ℕ). pointer_item i (slice_index_or c.args.pointers.now i None)) c.loop-i.i
      c.loop-i.invariant.0 c.in_ok-put_pointer.ensures.value refl,
  All-more PointerFits c.args.pointers.now c.loop-i.i _ (omega arith) c.loop-i.invariant.1 c.in_ok-put_pointer.ensures.fits,
)

pub returns-clause-fits : goal.returns-clause-fits
returns-clause-fits c = subst (All PointerFits) (take_all c.loop-i.i c.args.pointers.now (omega (arith, c.loop-i-test.false, c.told-pointers)))
    c.loop-i.invariant.1
