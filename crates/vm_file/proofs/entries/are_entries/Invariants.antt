use Rattle.std.proofs.Common.{◌≡◌, drop}
use Rattle.vm_file.specs.Directories.{are_entries}
use Rattle.vm_file.proofs.entries.are_entries.Given as goal

abbrev pub invariant-loop-e : goal.invariant-loop-e
invariant-loop-e l = are_entries 0 l.entries ≡ are_entries l.last (drop l.e-index l.entries)
