use Rattle.std.proofs.Common.{◌≡◌, ℕ, ◌+◌, ◌*◌, ◌-◌, ◌/◌, List, length, sym, subst, arith, rules}
use Rattle.lmem_heap.specs.Moves.{MapsEntries}
use Rattle.lmem_heap.specs.Slides.{AreInOrder, entry_slid, run_at}
use Rattle.lmem_heap.proofs.Movers.{entries-count, entries-join}
use Rattle.lmem_heap.proofs.Sliding.{entries-apart, order-ends}
use Rattle.lmem_heap.proofs.slides.write_entries.Goals.{then-not-is_apart, else-not-is_apart}
use Rattle.lmem_heap.proofs.slides.write_entries.Goals as goal

pub write_run-requires-clause-table : goal.write_run-requires-clause-table
write_run-requires-clause-table c =
    omega (arith, entries-count _ _ _ _ _ c.loop-run.invariant, c.loop-run.invariant.long, c.requires.table)

pub write_run-requires-clause-within : goal.write_run-requires-clause-within
write_run-requires-clause-within c =
    let n = entries-count _ _ _ _ _ c.loop-run.invariant in
    (omega arith, omega (arith, n, c.entries-n.ensures.value, c.loop-run-test.true))

pub write_run-requires-clause-order : goal.write_run-requires-clause-order
write_run-requires-clause-order c = order-ends 0 c.args.slides.now c.requires.order.0 _ c.requires.order.1 (omega (arith, c.requires.some))

pub write_run-requires-2-clause-table : goal.write_run-requires-2-clause-table
write_run-requires-2-clause-table c =
    omega (arith, entries-count _ _ _ _ _ c.loop-run.invariant, c.loop-run.invariant.long, c.requires.table)

pub write_run-requires-2-clause-within : goal.write_run-requires-2-clause-within
write_run-requires-2-clause-within c =
    let n = entries-count _ _ _ _ _ c.loop-run.invariant in
    (omega arith, omega (arith, n, c.entries-n.ensures.value))

pub write_run-requires-2-clause-order : goal.write_run-requires-2-clause-order
write_run-requires-2-clause-order c = order-ends 0 c.args.slides.now c.requires.order.0 _ c.requires.order.1 (omega (arith, c.requires.some))

pub loop-run-preserved : goal.loop-run-preserved
loop-run-preserved c =
    let ss = c.args.slides.now in
    let b = c.loop-run.block in
    let f : ℕ → ℕ = entry_slid ss in
    let from = 16 * c.loop-run.run in
    let last = length ss - 1 in
    let order : AreInOrder (run_at ss 0).from ss (run_at ss last).end = order-ends 0 ss c.requires.order.0 last
    c.requires.order.1 (omega (arith, c.requires.some)) in
    let P : List ℕ → Type 0 = λ x. MapsEntries b x f from (from + 16) in
    let step : MapsEntries b c.if-not-is_apart.block f from (from + 16) = elim c.if-not-is_apart.branch [
      | then-not-is_apart w ↦ subst P (sym w.block-is) w.write_run.ensures
      | else-not-is_apart w ↦ subst P (sym w.block-is) (entries-apart (run_at ss 0).from ss (run_at ss last).end b from
          (from + 16) order (c.is_apart.ensures (search rules)))
    ] in
    let next : from + 16 ≡ 16 * (c.loop-run.run + 1) = omega arith in
    subst (λ (x : ℕ). MapsEntries c.args.block.now c.if-not-is_apart.block f 0 x) next
    (entries-join c.args.block.now b c.if-not-is_apart.block f 0 from (from + 16) (omega arith) (omega arith)
    (omega (arith, c.entries-n.ensures.value, c.loop-run-test.true)) c.loop-run.invariant step)

pub returns : goal.returns
returns c =
    let old = c.args.block.now in
    let d = c.write_run-2.new.block in
    let f : ℕ → ℕ = entry_slid c.args.slides.now in
    let n = c.entries-n.result in
    let done : 16 * c.loop-run.run ≡ 16 * (n / 16) = omega (arith, c.loop-run-test.false, c.loop-run.auto.run-end) in
    let value = c.entries-n.ensures.value in
    subst (λ (x : ℕ). MapsEntries old d f 0 x) value (entries-join old c.loop-run.block d f 0 (16 * (n / 16)) n
    (omega arith) (omega arith) (omega (arith, value)) (subst (λ (x : ℕ). MapsEntries old c.loop-run.block f 0 x) done c.loop-run.invariant)
    c.write_run-2.ensures)
