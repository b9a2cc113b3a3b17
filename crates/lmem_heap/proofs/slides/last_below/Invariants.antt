use Rattle.std.proofs.Common.{◌-◌, ◌<◌, ◌≤◌, length}
use Rattle.lmem_heap.specs.Slides.{run_at}
use Rattle.lmem_heap.proofs.slides.last_below.Given as goal

abbrev pub invariant-loop-end : goal.invariant-loop-end
invariant-loop-end l = record {
  order : l.last < l.end;
  within : l.end ≤ length l.slides;
  below : 0 < l.last → (run_at l.slides l.last).from < l.entry;
  above : l.end < length l.slides → l.entry ≤ (run_at l.slides l.end).from;
}

abbrev pub decreases-loop-end : goal.decreases-loop-end
decreases-loop-end l = l.end - l.last
