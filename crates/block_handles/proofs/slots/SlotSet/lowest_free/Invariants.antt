use Rattle.std.proofs.Common.{◌≡◌, ℕ, ◌*◌, ◌<◌, ◌≤◌}
use Rattle.block_handles.specs.Bits.{bit_of}
use Rattle.block_handles.proofs.slots.SlotSet.lowest_free.Given as goal

-- every slot of a word that was looked at is in the set
abbrev pub invariant-loop-i : goal.invariant-loop-i
invariant-loop-i l = (slot : ℕ) → 64 * l.first ≤ slot → slot < 64 * l.i → bit_of l.self.words.items slot ≡ 1
