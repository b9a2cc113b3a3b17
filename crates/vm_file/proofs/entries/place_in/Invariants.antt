use Rattle.std.proofs.Common.{◌≡◌, ◌+◌, ◌*◌, ◌≤◌, drop}
use Rattle.vm_file.specs.State.{place_in}
use Rattle.vm_file.proofs.entries.place_in.Given as goal

abbrev pub invariant-loop-e : goal.invariant-loop-e
invariant-loop-e l = record { rest : place_in l.entries l.h ≡ l.place + place_in (drop l.e-index l.entries) l.h; small : l.place ≤ 65541 * l.e-index }
