use Rattle.std.proofs.Common.{sym, ◌∙◌, refl}
use Rattle.lmem_heap.proofs.Sliding.{run-down, slid-at, slid-behind, slid-below}
use Rattle.lmem_heap.proofs.slides.slid_entry.Goals.{then-entry-low-via-then-entry-low, then-entry-low-via-else-entry-low+then-high-entry}
use Rattle.lmem_heap.proofs.slides.slid_entry.Goals as goal

pub returns-then-entry-low : goal.returns-then-entry-low
returns-then-entry-low c = let a = c.args.slides.now in elim c.then-entry-low.branch [
  | then-entry-low-via-then-entry-low w ↦ sym (slid-below a.low a.runs.now a.high c.args.entry c.requires.order w.if-entry-low.true)
  | then-entry-low-via-else-entry-low+then-high-entry w ↦ sym (slid-behind a.low a.runs.now a.high c.args.entry c.requires.order w.if-high-entry.true)
]

pub moved-requires : goal.moved-requires
moved-requires c = let a = c.args.slides.now in run-down a.low a.runs.now a.high c.last_below.result c.requires.order c.last_below.ensures.known

pub returns : goal.returns
returns c =
    let a = c.args.slides.now in
    let e = c.last_below.ensures in
    c.moved.ensures ∙ sym (slid-at a.low a.runs.now a.high c.last_below.result _ c.args.entry c.requires.order refl e.known e.below e.next)
