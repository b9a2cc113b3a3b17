use Rattle.std.proofs.Common.{◌≡◌, ℕ, ◌+◌, ◌<◌, ◌≤◌, false}
use Rattle.chunk_array.specs.Tables.{offset}
use Rattle.chunk_array.proofs.table.is_rising_run.Given as goal

abbrev pub invariant-loop-j : goal.invariant-loop-j
invariant-loop-j l = l.falls ≡ false → (k : ℕ) → l.from ≤ k → k < l.j → offset l.bytes k ≤ offset l.bytes (k + 1)
