use Rattle.geos_calls.specs.ItemCalls.{irealloc}
use Rattle.geos_cli.proofs.BytesPut.{on-ok, only_read}
use Rattle.geos_cli.proofs.BytesRefused.{unsized-item}
use Rattle.geos_cli.proofs.BytesWays.{called, resized-item}
use Rattle.geos_cli.proofs.bytes.resize_item.Goals as goal

pub returns : goal.returns
returns g c =
    let medium = g.D.Device.medium in
    let old = c.args.kernel.now in
    let new = c.irealloc.new.self in
    let between = c.irealloc.ensures.device.between in
    let leads = called medium old new (g.met.D.Device.at_once old.device) c.memory_is_legal.ensures.kept (irealloc c.args.g c.args.i c.args.n)
    c.irealloc.result between.stops c.irealloc.ensures.calls in
    record {
      leads = resized-item medium old new c.args.g c.args.i c.args.n c.irealloc.result leads;
      refused = unsized-item medium old new c.args.g c.args.i c.args.n c.irealloc.result leads;
      honest = on-ok c.irealloc.result between.honest;
      unwritten = only_read medium old.device new.device c.irealloc.ensures.device.reads;
    }
