-- How a gap changes with what lies beside it.
use Rattle.std.specs.Prelude.{◌≡◌, ℕ, ◌⊎◌}
use Rattle.block_handles.specs.declared.room.Gap.{Gap}

-- the gap is unchanged, or extended by the block directly before it
abbrev pub Reaches : Gap → ℕ → ℕ → Gap → Type 0
Reaches old from until new = ((until ≡ old.at) × (new ≡ record old { at = from })) ⊎ (new ≡ old)

-- the gap after a range becomes free: extended by the range if they touch, or replaced by it, or unchanged
abbrev pub Joins : Gap → ℕ → ℕ → Gap → Type 0
Joins old from until new = ((until ≡ old.at) × (new ≡ record old { at = from })) ⊎
    (((from ≡ old.end) × (new ≡ record old { end = until })) ⊎ ((new ≡ record { at = from; end = until }) ⊎ (new ≡ old)))
