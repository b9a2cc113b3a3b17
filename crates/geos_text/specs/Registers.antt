-- Registers in a text.
use Rattle.std.specs.Prelude.{ℕ, ◌+◌, ◌-◌, ◌&&◌, ◌==◌, nat_le, nat_lt, if◌then◌else◌, List, length, slice_index, Option, Some, None}

-- the number of a register of so many: a letter, and one digit
abbrev pub register_of : ℕ → ℕ → List ℕ → Option ℕ
register_of letter count word =
    if length word == 2 && slice_index word 0 == letter && nat_le 48 (slice_index word 1) && nat_lt (slice_index word 1) (48 + count)
    then Some (slice_index word 1 - 48)
    else None
