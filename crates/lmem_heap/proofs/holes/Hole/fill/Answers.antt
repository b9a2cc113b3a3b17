use Rattle.std.proofs.Common.{◌≡◌, ℕ, ◌+◌, replicate, refl, ap, sym, subst, arith}
use Rattle.lmem_raw.specs.Bytes.{with_part}
use Rattle.lmem_heap.specs.Holes.{IsBeside}
use Rattle.geos_terms.proofs.Costs.{cost-least}
use Rattle.lmem_heap.proofs.FreeLists.{open-place}
use Rattle.lmem_heap.proofs.Taking.{hole-filled}
use Rattle.lmem_heap.proofs.holes.Hole.fill.Goals as goal

pub overflow_add-n : goal.overflow_add-n
overflow_add-n c =
    let p = open-place _ _ _ _ c.requires.hole.is in
    omega (arith, cost-least c.args.n c.requires.some, p.high, p.most, p.low, p.table, c.requires.room)

pub clear-requires : goal.clear-requires
clear-requires c =
    omega (
      arith,
      cost-least c.args.n c.requires.some,
      (open-place _ _ _ _ c.requires.hole.is).high,
      c.requires.room,
      c.requires.kept,
      c.saturating_sub-more.ensures,
      c.put16.auto.block,
      c.put_entry.auto.block,
    )

pub returns : goal.returns
returns c =
    let h = c.args.self in
    let d = c.clear.new.block in
    let f = hole-filled c.args.block.now c.put_entry.new.block c.put16.new.block d h.link h.at h.end c.args.i
    c.args.keep c.args.n c.requires.hole.is c.requires.some c.requires.room c.requires.kept c.requires.known
    c.requires.free c.put_entry.ensures c.put16.ensures
    (subst (λ (x : ℕ). d ≡ with_part c.put16.new.block (h.at + 2 + c.args.keep) (replicate x 0)) c.saturating_sub-more.ensures c.clear.ensures) in
    record {
      hole = subst (λ (x : ℕ). IsBeside d h.link (h.at + x) h.end) (sym c.cost.ensures) (record { is = f.is; used = f.used c.requires.hole.used });
      place = (refl, ap (λ x. h.at + x) c.cost.ensures, refl);
      chunks = f.chunks;
      handle = f.handle;
    }
