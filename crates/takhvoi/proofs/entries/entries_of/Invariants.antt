use Rattle.std.proofs.Common.{◌≡◌}
use Rattle.takhvoi.specs.Records.{records_below}
use Rattle.takhvoi.specs.Entries.{entry_in}
use Rattle.takhvoi.proofs.entries.entries_of.Given as goal

abbrev pub invariant-loop-handle : goal.invariant-loop-handle
invariant-loop-handle l = l.entries.items ≡ records_below (entry_in l.kernel.core) l.handle
