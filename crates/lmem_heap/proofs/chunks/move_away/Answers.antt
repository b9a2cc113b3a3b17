use Rattle.std.proofs.Common.{◌<◌, Some, set, ap, sym, ◌∙◌, arith}
use Rattle.geos_terms.specs.Chunks.{entry_bytes, resized}
use Rattle.geos_terms.specs.Block.{chunks, entries, entry}
use Rattle.geos_terms.specs.Heap.{IsOffset}
use Rattle.geos_terms.proofs.Costs.{cost-four, cost-fours}
use Rattle.lmem_heap.proofs.Refits.{placed}
use Rattle.lmem_heap.proofs.chunks.move_away.Goals as goal

pub take-hole-requires-clause-some : goal.take-hole-requires-clause-some
take-hole-requires-clause-some c = omega (arith, cost-four c.args.n c.requires.some, c.cost-size.ensures)

pub take-hole-requires-clause-fours : goal.take-hole-requires-clause-fours
take-hole-requires-clause-fours c = omega (arith, cost-fours c.args.n, c.cost-size.ensures)

pub move_in-left-requires-clause-room : goal.move_in-left-requires-clause-room
move_in-left-requires-clause-room c = omega (arith, c.take-hole.ensures.place, c.in-Some.ensures.empty, c.cost-size.ensures)

pub move_in-left-requires-clause-offset : goal.move_in-left-requires-clause-offset
move_in-left-requires-clause-offset c =
    let e = c.take-hole.ensures.wider.each c.args.i c.requires.known in
    ((λ z. c.requires.offset.0 (sym e ∙ z)), (λ z. c.requires.offset.1 (sym e ∙ z)))

pub returns-in-Some : goal.returns-in-Some
returns-in-Some c =
    let w = c.take-hole.new.block in
    let t = c.take-hole.ensures.wider in
    let g = c.give_back.ensures in
    let e = t.each c.args.i c.requires.known in
    let known : c.args.i < entries w = omega (arith, t.count, c.requires.known) in
    let offset : IsOffset (entry w c.args.i) = ((λ z. c.requires.offset.0 (sym e ∙ z)), (λ z. c.requires.offset.1 (sym e ∙ z))) in
    record {
      heap = g.heap;
      chunks = g.chunks ∙ c.move_in-left.ensures.chunks ∙ ap (λ x. set (chunks w) c.args.i (Some (resized x c.args.n)))
          (sym (placed w c.args.i known offset)) ∙ ap (λ xs. set xs c.args.i (Some (resized (entry_bytes xs c.args.i) c.args.n))) t.chunks;
      handle = g.handle ∙ c.move_in-left.ensures.handle ∙ t.handle;
    }
