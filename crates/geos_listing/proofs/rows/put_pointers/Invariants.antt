use Rattle.std.specs.Prelude.{◌≡◌, ◌++◌, ℕ, None, take, slice_index_or}
use Rattle.std.specs.List.{All}
use Rattle.geos_image.specs.Ranges.{PointerFits}
use Rattle.geos_listing.specs.Rows.{texts_below, pointer_item}
use Rattle.geos_listing.proofs.rows.put_pointers.Given as goal

abbrev pub invariant-loop-i : goal.invariant-loop-i
invariant-loop-i l = (l.out.items ≡ l.initial.out.items ++ texts_below l.i (λ (i : ℕ). pointer_item i (slice_index_or l.pointers i None)))
    × All PointerFits (take l.i l.pointers)
