use Rattle.std.proofs.Common.{◌-◌, ◌<◌, length}
use Rattle.std.specs.Prelude.{MatchOption}
use Rattle.lmem_heap.specs.Gaps.{IsFirstGap, SlidesGaps}
use Rattle.lmem_heap.proofs.compact.slide_gaps.Given as goal

abbrev pub invariant-loop-next : goal.invariant-loop-next
invariant-loop-next l = record {
  so_far : SlidesGaps l.fn.block l.block l.slides.items;
  next : MatchOption l.next (0 < length l.slides.items) (λ gap. IsFirstGap l.block gap × (length l.slides.items < 128));
}

abbrev pub decreases-loop-next : goal.decreases-loop-next
decreases-loop-next l = 128 - length l.slides.items
