use Rattle.lmem_heap.specs.Moves.{MapsEntries}
use Rattle.lmem_heap.specs.Slides.{entry_slid}
use Rattle.lmem_heap.proofs.slides.write_run.Given as goal

abbrev pub invariant-loop-i : goal.invariant-loop-i
invariant-loop-i l = MapsEntries l.fn.block l.block (entry_slid l.slides.runs.now) l.from l.i
