use Rattle.std.proofs.Common.{ℕ, false, refl}
use Rattle.std.specs.Prelude.{slice_index_or}
use Rattle.geos_listing.specs.Rows.{pair_item, pair_slots}
use Rattle.geos_listing.proofs.Texts.{texts_below-step}
use Rattle.geos_listing.proofs.rows.put_pairs.Goals as goal

pub loop-k-preserved : goal.loop-k-preserved
loop-k-preserved c =
    texts_below-step _ _ _ _ (λ (k : ℕ). pair_item (slice_index_or pair_slots k (0, 0)) (slice_index_or c.args.pairs.now k false))
    c.loop-k.k c.loop-k.invariant c.in_ok-put_pair.ensures refl
