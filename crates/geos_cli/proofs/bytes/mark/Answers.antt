use Rattle.std.proofs.Common.{subst}
use Rattle.std.specs.Prelude.{Ok}
use Rattle.geos_terms.specs.declared.name.Name.{Name}
use Rattle.geos_calls.specs.VmCalls.{vdirty}
use Rattle.geos_terms.specs.Names.{vm}
use Rattle.geos_kernel.specs.Kernel.{Calls}
use Rattle.geos_kernel.specs.View.{IsMarked}
use Rattle.geos_kernel.proofs.Seen.{file-on}
use Rattle.geos_kernel.proofs.Stops.{between-asking}
use Rattle.geos_cli.proofs.BytesPut.{not_asked}
use Rattle.geos_cli.proofs.BytesWays.{called, mark-locked}
use Rattle.geos_cli.proofs.bytes.mark.Goals as goal

pub returns : goal.returns
returns g c =
    let medium = g.D.Device.medium in
    let old = c.args.kernel.now in
    let new = c.vdirty.new.self in
    let between = between-asking medium old new c.vdirty.ensures.device in
    let known = c.memory_is_legal.ensures.file in
    let calls = subst (λ (n : Name). Calls (medium.honest old.device) (vdirty n.h) (Ok (tt {0})) old.core new.core) c.vm.ensures
    c.vdirty.ensures.calls in
    record {
      leads = called medium old new (g.met.D.Device.at_once old.device) c.memory_is_legal.ensures.kept (vdirty c.args.h) (Ok (tt {0}))
          between.stops calls;
      locked = mark-locked medium old new c.args.h known.0 known.1 (c.memory_is_legal.ensures.locks known.0 known.1 (vm c.args.h))
          (λ f tied. c.memory_is_legal-2.ensures.locks f (file-on (medium.honest old.device) (medium.honest new.device) between.honest.0 new.core f
          tied) (vm c.args.h)) calls c.requires;
      marked = subst (λ (n : Name). IsMarked new.core n.h) c.vm.ensures c.vdirty.ensures.marked;
      honest = between.honest;
      unwritten = not_asked medium old.device new.device c.vdirty.ensures.device.device;
    }
