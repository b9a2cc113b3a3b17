use Rattle.std.proofs.Common.{ℕ, ◌+◌, ◌*◌, ◌<◌, ◌≤◌}
use Rattle.chunk_array.specs.Tables.{offset}
use Rattle.chunk_array.proofs.table.rising_offsets.Given as goal

-- the runs that were looked at rise
abbrev pub invariant-loop-run : goal.invariant-loop-run
invariant-loop-run l = (k : ℕ) → k < 16 * l.run → offset l.bytes k ≤ offset l.bytes (k + 1)
