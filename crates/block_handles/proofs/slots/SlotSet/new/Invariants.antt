use Rattle.std.proofs.Common.{◌≡◌, replicate}
use Rattle.block_handles.proofs.slots.SlotSet.new.Given as goal

abbrev pub invariant-loop : goal.invariant-loop
invariant-loop l = l.words.items ≡ replicate l.counter 0
