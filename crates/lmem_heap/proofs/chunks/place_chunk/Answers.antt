use Rattle.std.proofs.Common.{◌≡◌, ℕ, replicate, set, Some, ap, refl, sym, ◌∙◌, subst, arith}
use Rattle.geos_terms.specs.Block.{chunks}
use Rattle.geos_terms.proofs.Costs.{cost-four, cost-fours}
use Rattle.geos_terms.proofs.Resizes.{resized-nothing}
use Rattle.lmem_heap.specs.Holes.{FirstIsSmaller, IsOpen}
use Rattle.lmem_heap.proofs.FreeLists.{open-heap, open-place}
use Rattle.lmem_heap.proofs.Unplaced.{nothing-comes}
use Rattle.lmem_heap.proofs.chunks.place_chunk.Goals as goal

pub returns-then-n-eq0 : goal.returns-then-n-eq0
returns-then-n-eq0 c =
    let e = nothing-comes c.args.block.now c.put_entry.new.block c.args.i c.requires.heap c.requires.known c.requires.free c.put_entry.ensures in
    record {
      heap = e.heap;
      chunks = e.chunks ∙ ap (λ x. set (chunks c.args.block.now) c.args.i (Some (replicate x 0)))
          (sym c.if-n-eq0.true);
      handle = e.handle;
    }

pub take-hole-requires-clause-some : goal.take-hole-requires-clause-some
take-hole-requires-clause-some c = let four = cost-four c.args.n (omega arith) in omega (arith, four, c.cost-size.ensures)

pub take-hole-requires-clause-fours : goal.take-hole-requires-clause-fours
take-hole-requires-clause-fours c = omega (arith, cost-fours c.args.n, c.cost-size.ensures)

pub fill-requires-clause-kept : goal.fill-requires-clause-kept
fill-requires-clause-kept c =
    let p = open-place c.take-hole.new.block c.in-Some.hole.link c.in-Some.hole.at c.take-hole.result.end c.take-hole.ensures.wider.beside.is in
    let four = cost-four c.args.n (omega arith) in
    omega (arith, p.high, c.take-hole.ensures.place, c.in-Some.ensures.empty, four, c.cost-size.ensures)

pub returns-in-Some : goal.returns-in-Some
returns-in-Some c =
    let t = c.take-hole.ensures in
    let f = c.fill.ensures in
    let same : c.fill.result.at ≡ c.fill.result.end = omega (arith, f.place, t.place, c.in-Some.ensures.empty, c.cost-size.ensures) in
    record {
      heap = open-heap c.fill.new.block c.fill.result.link c.fill.result.at
          (subst (λ (x : ℕ). IsOpen c.fill.new.block c.fill.result.link c.fill.result.at x) (sym same) f.hole.is);
      chunks = f.chunks ∙ ap (λ x. set (chunks c.take-hole.new.block) c.args.i (Some x)) (resized-nothing c.args.n)
          ∙ ap (λ xs. set xs c.args.i (Some (replicate c.args.n 0))) t.wider.chunks;
      handle = f.handle ∙ t.wider.handle;
    }

pub returns-in-None : goal.returns-in-None
returns-in-None c = (omega arith, refl, subst (λ (size : ℕ). FirstIsSmaller c.args.block.now size) c.cost-size.ensures c.in-None.ensures)
