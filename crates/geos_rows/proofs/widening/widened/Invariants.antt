use Rattle.std.proofs.Common.{◌≡◌}
use Rattle.geos_rows.proofs.widening.widened.Given as goal

-- the slots are those of the join
abbrev pub invariant-loop-k : goal.invariant-loop-k
invariant-loop-k l = l.next.slots ≡ l.joined.slots

abbrev pub invariant-loop-k-2 : goal.invariant-loop-k-2
invariant-loop-k-2 l = l.next.slots ≡ l.joined.slots
