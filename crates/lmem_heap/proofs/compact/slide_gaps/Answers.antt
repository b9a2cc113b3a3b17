use Rattle.std.proofs.Common.{◌≡◌, ℕ, ◌<◌, List, Option, Some, None, length, ap, sym, subst, arith}
use Rattle.std.specs.Prelude.{IfSome, MatchOption}
use Rattle.std.proofs.lemmas.Bool.Decides.{nat_tests}
use Rattle.geos_terms.specs.Block.{entries}
use Rattle.lmem_heap.specs.declared.compact.Gap.{Gap}
use Rattle.lmem_heap.specs.declared.slides.Slide.{Slide}
use Rattle.lmem_heap.specs.Moves.{MapsEntries}
use Rattle.lmem_heap.specs.Slides.{entry_slid}
use Rattle.lmem_heap.specs.Gaps.{IsFirstGap, SlidesGaps}
use Rattle.lmem_heap.proofs.Unwritten.{but-head}
use Rattle.lmem_heap.proofs.Batches.{SlidOneMore, slides-none, slides-one-more, slides-done}
use Rattle.lmem_heap.proofs.compact.slide_gaps.Goals.{After-push}
use Rattle.lmem_heap.proofs.compact.slide_gaps.Goals as goal

-- what the loop knows of the next gap
abbrev Next : List ℕ → ℕ → Option Gap → Type 0
Next block n next = MatchOption next (0 < n) (λ gap. IsFirstGap block gap × (n < 128))

next_short : (block : List ℕ) (n : ℕ) (next : Option Gap) → IfSome next (λ gap. IsFirstGap block gap) → 0 < n → n < 128 → Next block n next
next_short block n None first some few = some
next_short block n (Some gap) first some few = (first, few)

pub loop-next-init : goal.loop-next-init
loop-next-init c =
    let b = c.args.block.now in
    let n : length c.new-slides.result.items ≡ 0 = ap length c.new-slides.ensures in
    record {
      so_far = subst (λ (x : List Slide). SlidesGaps b b x) (sym c.new-slides.ensures)
          (slides-none b c.requires.heap (λ k. omega (arith, c.type_inv.block k)));
      next = (c.requires.first, omega (arith, n));
    }

-- the run after the gap has moved, and is listed
one-more : (c : After-push) → SlidOneMore c.args.block.now c.slide-slide.new.block c.push.new.self.items
one-more c =
    let gap = subst (Next c.loop-next.block (length c.loop-next.slides.items)) c.in-Some.is c.loop-next.invariant.next in
    slides-one-more _ _ _ _ _ c.in-Some.gap _ c.loop-next.invariant.so_far gap.0 (omega arith) c.slide-slide.ensures.bytes
    c.slide-slide.ensures.run c.push.ensures.items

pub short_gap-next-requires : goal.short_gap-next-requires
short_gap-next-requires c = let s = (one-more (goal.at.short_gap-next-requires c).After-push).so_far in (s.heap, s.slid.but)

pub loop-next-preserved-then-is_full : goal.loop-next-preserved-then-is_full
loop-next-preserved-then-is_full c = let s = one-more (goal.at.loop-next-preserved-then-is_full c).After-push in
    record { so_far = s.so_far; next = s.some }

pub loop-next-preserved : goal.loop-next-preserved
loop-next-preserved c =
    let s = one-more (goal.at.loop-next-preserved c).After-push in
    let few : length c.push.new.self.items < 128 = grind (arith, nat_tests) in
    record {
      so_far = s.so_far;
      next = next_short c.slide-slide.new.block (length c.push.new.self.items)
          c.short_gap-next.result c.short_gap-next.ensures s.some few;
    }

pub write_entries-requires-clause-table : goal.write_entries-requires-clause-table
write_entries-requires-clause-table c =
    let s = c.loop-next.invariant.so_far in
    let count = but-head c.loop-next.block s.heap 10 s.slid.but (omega arith) in
    omega (arith, count, s.slid.but.long, s.slid.but.is.0.fits)

pub returns : goal.returns
returns c =
    let block = c.loop-next.block in
    let items = c.loop-next.slides.items in
    let new = c.write_entries.new.block in
    let some : 0 < length items = subst (Next block (length items)) c.in_default.is c.loop-next.invariant.next in
    slides-done c.args.block.now block new items c.loop-next.invariant.so_far c.requires.heap c.requires.not_compact some
    (subst (λ (x : List Slide). MapsEntries block new (entry_slid x) 0 (entries block)) c.deref.ensures.0 c.write_entries.ensures)
