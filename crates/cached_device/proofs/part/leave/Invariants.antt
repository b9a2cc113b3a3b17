use Rattle.std.proofs.Common.{◌≡◌, ℕ, ◌<◌, ◌≤◌, slice_index}
use Rattle.vm_file.specs.Device.{Touched}
use Rattle.cached_device.specs.Stopped.{chosen}
use Rattle.cached_device.proofs.part.leave.Given as goal

abbrev pub invariant-loop-i : goal.invariant-loop-i
invariant-loop-i l = record {
  touched : Touched l.fn.at l.fn.n l.fn.bytes l.bytes;
  left : (k : ℕ) → l.fn.at ≤ k → k < l.i → slice_index l.bytes k ≡ chosen l.parts l.new l.fn.bytes k;
  rest : (k : ℕ) → l.i ≤ k → slice_index l.bytes k ≡ slice_index l.fn.bytes k;
}
