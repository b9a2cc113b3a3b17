use Rattle.std.proofs.Common.{◌*◌}
use Rattle.lmem_heap.specs.Moves.{MapsEntries}
use Rattle.lmem_heap.specs.Slides.{entry_slid}
use Rattle.lmem_heap.proofs.slides.write_entries.Given as goal

abbrev pub invariant-loop-run : goal.invariant-loop-run
invariant-loop-run l = MapsEntries l.fn.block l.block (entry_slid l.slides) 0 (16 * l.run)
