use Rattle.std.specs.Prelude.{◌≡◌, ◌++◌, ◌+◌, ℕ}
use Rattle.geos_listing.specs.Rows.{texts_below}
use Rattle.geos_listing.specs.Listing.{place_text}
use Rattle.geos_listing.proofs.listing.put_places.Given as goal

abbrev pub invariant-loop-k : goal.invariant-loop-k
invariant-loop-k l = l.out.items ≡ l.initial.out.items ++ texts_below l.k (λ (k : ℕ). place_text l.image (l.start + k))
