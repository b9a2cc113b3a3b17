use Rattle.std.proofs.Common.{ℕ, ◌≤◌, None, Some, length, replicate, ap, subst, arith}
use Rattle.std.proofs.lemmas.List.{length-replicate}
use Rattle.geos_terms.specs.Chunks.{cost, entry_bytes, resized, sixteens}
use Rattle.geos_terms.specs.Block.{chunks}
use Rattle.geos_terms.proofs.Costs.{cost-over}
use Rattle.geos_terms.proofs.Resizes.{length-resized}
use Rattle.geos_terms.proofs.Sums.{count-chunks}
use Rattle.geos_terms.proofs.Lowest.{block-used, used-set}
use Rattle.lmem_heap.proofs.resize.resize.Goals as goal

pub overflow_cast-n : goal.overflow_cast-n
overflow_cast-n c =
    let cs = chunks c.args.block.now in
    let count = count-chunks c.args.block.now in
    let long = length-replicate {A = ℕ} c.args.n 0 in
    let m = ap cost long in
    let s = used-set cs c.args.i (Some (replicate c.args.n 0)) (omega (arith, count)) in
    let t = used-set cs c.args.i None (omega (arith, count)) in
    omega (
      arith,
      s,
      t,
      c.used_with-used.ensures.value (replicate c.args.n 0) long,
      m,
      cost-over c.args.n,
      c.in_ok-room_for.ensures.0,
      c.requires.heap.0.most,
    )

pub resize_chunk-requires-clause-room : goal.resize_chunk-requires-clause-room
resize_chunk-requires-clause-room c =
    let b = c.args.block.now in
    let cs = chunks b in
    let count = count-chunks b in
    let long = length-replicate {A = ℕ} c.args.n 0 in
    let m = ap cost long in
    let s = used-set cs c.args.i (Some (replicate c.args.n 0)) (omega (arith, count)) in
    omega (arith, s, c.used_with-used.ensures.value (replicate c.args.n 0) long, block-used b c.requires.heap, m, c.in_ok-room_for.ensures.0)

pub returns-clause-fits : goal.returns-clause-fits
returns-clause-fits c =
    let bytes = resized (entry_bytes (chunks c.args.block.now) c.args.i) c.args.n in
    subst (λ (k : ℕ). sixteens k ≤ length c.args.block.now) (c.used_with-used.ensures.value bytes (length-resized _ c.args.n))
    c.in_ok-room_for.ensures.1
