use Rattle.std.proofs.Common.{◌≡◌, ◌≤◌, ◌+◌, length}
use Rattle.std.specs.Io.KnownBytes.{Consumes}
use Rattle.geos_input.proofs.read.read_all.Given as goal

abbrev pub invariant-loop : goal.invariant-loop
invariant-loop g l =
    (length l.bytes.items ≤ 1048576) × (l.counter ≤ length l.bytes.items) × (l.input.asked ≤ l.fn.input.asked + l.counter)
    × (l.input.failures ≡ l.fn.input.failures)
    × Consumes (g.R.Read.remaining l.fn.input.stream) (g.R.Read.remaining l.input.stream) l.bytes.items
