use Rattle.std.specs.Prelude.{◌≡◌, ◌++◌, ℕ, take, slice_index}
use Rattle.std.specs.List.{All}
use Rattle.geos_image.specs.Ranges.{IsWord}
use Rattle.geos_listing.specs.Rows.{texts_below, bound_item}
use Rattle.geos_listing.proofs.rows.put_bounds.Given as goal

abbrev pub invariant-loop-i : goal.invariant-loop-i
invariant-loop-i l = (l.out.items ≡ l.initial.out.items ++ texts_below l.i (λ (i : ℕ). bound_item i (slice_index l.bounds i)))
    × All IsWord (take l.i l.bounds)
