use Rattle.std.proofs.Common.{ℕ, ◌-◌, length, refl, sym, subst, arith, rules}
use Rattle.geos_terms.specs.Block.{entry, table_end}
use Rattle.geos_terms.proofs.Costs.{cost-fours}
use Rattle.geos_terms.proofs.Words.{part-shifted}
use Rattle.lmem_heap.specs.Holes.{IsOpen}
use Rattle.lmem_heap.specs.Packed.{chunk_length}
use Rattle.lmem_heap.proofs.Extending.{heap-extent}
use Rattle.lmem_heap.proofs.Filling.{LeftHole, left-hole}
use Rattle.lmem_heap.proofs.holes.Hole.left_by.Goals.{After-put_entry}
use Rattle.lmem_heap.proofs.holes.Hole.left_by.Goals as goal

pub of-chunk-requires : goal.of-chunk-requires
of-chunk-requires c = heap-extent c.args.block.now c.args.i c.requires.heap c.requires.known c.requires.offset

-- what the chunk leaves
left : (c : After-put_entry) → LeftHole c.args.block.now c.put_entry.new.block c.args.i
left c = left-hole c.args.block.now c.put_entry.new.block c.args.i c.requires.heap c.requires.known c.requires.offset c.put_entry.ensures

pub at-requires : goal.at-requires
at-requires c =
    let l = left (goal.at.at-requires c).After-put_entry in
    subst (λ (begin : ℕ). IsOpen c.put_entry.new.block 12 begin c.of-chunk.result.end) (omega (arith, c.of-chunk.ensures.entry))
    (subst (λ (end : ℕ). IsOpen c.put_entry.new.block 12 (entry c.args.block.now c.args.i - 2) end) (sym c.of-chunk.ensures.end) l.is)

pub returns : goal.returns
returns c =
    let b = c.args.block.now in
    let k = c.of-chunk.ensures in
    let l = left (goal.at.returns c).After-put_entry in
    record {
      hole = search rules;
      place = search rules;
      some = omega (arith, c.at.ensures.place, k.wide);
      fours = omega (arith, c.at.ensures.place, k.entry, k.wide, cost-fours c.of-chunk.result.len, l.fours);
      chunks = l.chunks;
      handle = l.handle;
      count = l.count;
      free = l.here;
      bytes = part-shifted b c.put_entry.new.block 0 0 (table_end b) (length b) (entry b c.args.i) (entry b c.args.i)
          (chunk_length b c.args.i) l.bytes refl (omega (arith, l.low)) (omega (arith, k.len, k.entry, k.wide, k.high))
          (omega (arith, k.len, k.entry, k.wide, k.high)) (omega (arith, k.len, k.entry, k.wide, k.high, c.put_entry.auto.block));
    }
