use Rattle.std.specs.Prelude.{◌≡◌, ◌++◌}
use Rattle.geos_listing.specs.Rows.{pair_items}
use Rattle.geos_listing.proofs.rows.put_pairs.Given as goal

abbrev pub invariant-loop-k : goal.invariant-loop-k
invariant-loop-k l = l.out.items ≡ l.initial.out.items ++ pair_items l.k l.pairs
