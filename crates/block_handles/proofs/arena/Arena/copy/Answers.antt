use Rattle.std.proofs.Common.{◌+◌, ◌≤◌, ap, length, arith}
use Rattle.lmem_raw.specs.Bytes.{part}
use Rattle.block_handles.proofs.Views.{length-part}
use Rattle.block_handles.proofs.Writes.{written_seen, reads_seen}
use Rattle.block_handles.proofs.arena.Arena.copy.Goals as goal

pub invariant_of-self : goal.invariant_of-self
invariant_of-self c = (written_seen c.self.inside.limits c.self.inside.region c.self.inside.table c.self.inside.index.items
    c.args.self.now c.self.view_is c.self.invariant c.args.to (part c.self.inside.region c.args.from c.args.count)
    c.move_bytes.new.self c.move_bytes.ensures).sound

pub returns : goal.returns
returns c =
    let room : c.args.from + c.args.count ≤ length c.self.inside.region = omega (arith, c.requires.0, ap (λ s. s.len.region) c.self.view_is) in
    record {
      bytes = part c.self.inside.region c.args.from c.args.count;
      long = length-part c.self.inside.region c.args.from c.args.count room;
      read = reads_seen c.self.inside.limits c.self.inside.region c.self.inside.table c.self.inside.index.items c.args.self.now
          c.self.view_is c.self.invariant c.args.from c.args.count room;
      wrote = (written_seen c.self.inside.limits c.self.inside.region c.self.inside.table c.self.inside.index.items c.args.self.now
          c.self.view_is c.self.invariant c.args.to (part c.self.inside.region c.args.from c.args.count) c.move_bytes.new.self c.move_bytes.ensures).is;
    }
