use Rattle.std.proofs.Common.{ℕ, ◌-◌, ◌/◌, ◌<◌, ◌≤◌}
use Rattle.block_handles.specs.Store.{size_of, place_of}
use Rattle.block_handles.proofs.arena.Arena.first_in.Given as goal

-- no block begins in a granule that was looked at
abbrev pub invariant-loop-granule : goal.invariant-loop-granule
invariant-loop-granule l = (slot : ℕ) → 0 < size_of l.self slot → l.from ≤ place_of l.self slot → place_of l.self slot < l.until
    → l.granule ≤ place_of l.self slot / 64

abbrev pub decreases-loop-granule : goal.decreases-loop-granule
decreases-loop-granule l = l.end - l.granule
