-- Which of two stretches has more room.
use Rattle.std.specs.Prelude.{◌≡◌, ℕ, ◌+◌, ◌-◌, ◌≤◌, ◌⊎◌}
use Rattle.block_handles.specs.declared.stretch.Stretch.{Stretch}

-- the wider of a stretch and another in which some bytes are taken
abbrev pub IsWider : Stretch → ℕ → ℕ → ℕ → Stretch → Type 0
IsWider old from until taken new =
    ((new ≡ old) × (until ≤ from + taken + old.room))
    ⊎ ((new ≡ record { from = from; until = until; room = until - (from + taken) }) × (from + taken + old.room ≤ until))
