use Rattle.geos_cli.proofs.BytesPut.{only_read}
use Rattle.geos_cli.proofs.BytesRefused.{item-refused}
use Rattle.geos_cli.proofs.BytesWays.{item-opened}
use Rattle.geos_cli.proofs.bytes.open_item.Goals as goal

pub returns : goal.returns
returns g c =
    let medium = g.D.Device.medium in
    let old = c.args.kernel.now in
    let new = c.ilock.new.self in
    let known = c.memory_is_legal.ensures.file in
    record {
      opened = item-opened medium old new c.args.i c.args.g c.args.n c.ilock.result (g.met.D.Device.at_once old.device)
          c.memory_is_legal.ensures.kept known.0 known.1 c.ilock.ensures.device.between c.ilock.ensures.gives
          c.ilock.ensures.stands c.ilock.ensures.writable;
      refused = item-refused medium old new c.args.i c.args.g c.args.n c.ilock.result (g.met.D.Device.at_once old.device)
          c.memory_is_legal.ensures.kept c.ilock.ensures.device.between c.ilock.ensures.gives;
      unwritten = only_read medium old.device new.device c.ilock.ensures.device.reads;
    }
