use Rattle.std.specs.Prelude.{Ok}
use Rattle.geos_calls.specs.Calls.{store}
use Rattle.geos_kernel.proofs.Stops.{between-leaving}
use Rattle.geos_cli.proofs.BytesPut.{left_alone}
use Rattle.geos_cli.proofs.BytesWays.{called}
use Rattle.geos_cli.proofs.bytes.store.Goals as goal

pub returns : goal.returns
returns g c =
    let medium = g.D.Device.medium in
    let old = c.args.kernel.now in
    let new = c.store.new.self in
    let between = between-leaving medium old new c.store.ensures.vm in
    let known = c.memory_is_legal.ensures.file in
    record {
      leads = λ ref stands. called medium old new (g.met.D.Device.at_once old.device) c.memory_is_legal.ensures.kept
          (store ref c.args.at c.args.bytes.now) (Ok (tt {0})) between.stops (c.store.ensures.row ref stands);
      stands = λ ref stands. c.store.ensures.spans known.0 known.1 c.args.span ref stands tt;
      honest = between.honest;
      unwritten = left_alone medium old new c.store.ensures.vm;
    }
