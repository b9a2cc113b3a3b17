use Rattle.std.proofs.Common.{ℕ, ◌<◌, get_or}
use Rattle.vm_file.specs.declared.directory.Entry.{Entry}
use Rattle.vm_file.specs.Committing.{IsThere}
use Rattle.vm_file.proofs.commit.are_there.Given as goal

abbrev pub invariant-loop-e : goal.invariant-loop-e
invariant-loop-e g l = (k : ℕ) (d : Entry) → k < l.e-index → IsThere (g.S.Source.resident_bytes l.source) l.kept (get_or l.entries k d)
