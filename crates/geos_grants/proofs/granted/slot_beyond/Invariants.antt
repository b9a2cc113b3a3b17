use Rattle.std.proofs.Common.{◌≡◌, ℕ, true, false, slice_index_or, ◌<◌}
use Rattle.geos_grants.proofs.granted.slot_beyond.Given as goal

-- each flag before k has its match
abbrev pub invariant-loop-k : goal.invariant-loop-k
invariant-loop-k l = (j : ℕ) → j < l.k → slice_index_or l.found j false ≡ true → slice_index_or l.grants j false ≡ true
