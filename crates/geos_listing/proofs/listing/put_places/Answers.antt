use Rattle.std.proofs.Common.{◌+◌, ℕ, refl}
use Rattle.geos_listing.specs.Listing.{place_text}
use Rattle.geos_listing.proofs.Texts.{texts_below-step}
use Rattle.geos_listing.proofs.listing.put_places.Goals as goal

pub loop-k-preserved : goal.loop-k-preserved
loop-k-preserved c =
    texts_below-step _ _ _ _ (λ (k : ℕ). place_text c.args.image.now (c.args.start + k)) c.loop-k.k c.loop-k.invariant c.in_ok-put_place.ensures refl
