use Rattle.std.specs.Prelude.{◌≡◌, ℕ, take}
use Rattle.std.specs.List.{All}
use Rattle.geos_image.specs.Ranges.{RoutineFits}
use Rattle.geos_listing.specs.Rows.{texts_below}
use Rattle.geos_listing.specs.Listing.{listed_routine}
use Rattle.geos_listing.proofs.listing.list.Given as goal

abbrev pub invariant-loop-r : goal.invariant-loop-r
invariant-loop-r l =
    (l.out.items ≡ texts_below l.r (λ (r : ℕ). listed_routine l.image r))
    × All RoutineFits (take l.r l.image.routines)
