use Rattle.std.proofs.Common.{◌<◌, ℕ, get_or}
use Rattle.vm_file.specs.declared.directory.Entry.{Entry}
use Rattle.vm_blocks.proofs.entries.are_words.Given as goal

abbrev pub invariant-loop-entry : goal.invariant-loop-entry
invariant-loop-entry l = (k : ℕ) (d : Entry) → k < l.entry-index → (get_or l.entry-items k d).uid < 65536
