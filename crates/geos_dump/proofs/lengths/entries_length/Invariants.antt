use Rattle.std.proofs.Common.{◌≡◌, ◌*◌, ◌≤◌, take}
use Rattle.vm_file.specs.Directories.{entries_length}
use Rattle.geos_dump.proofs.lengths.entries_length.Given as goal

abbrev pub invariant-loop-e : goal.invariant-loop-e
invariant-loop-e l = record { sum : l.length ≡ entries_length (take l.e-index l.entries); small : l.length ≤ 65541 * l.e-index }
