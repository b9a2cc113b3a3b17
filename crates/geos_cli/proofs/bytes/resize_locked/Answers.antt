use Rattle.std.proofs.Common.{subst}
use Rattle.geos_terms.specs.declared.name.Name.{Name}
use Rattle.geos_calls.specs.Calls.{lrealloc}
use Rattle.geos_terms.specs.Names.{vm}
use Rattle.geos_kernel.specs.Kernel.{Calls}
use Rattle.geos_kernel.proofs.Seen.{file-on}
use Rattle.geos_kernel.proofs.Stops.{between-leaving}
use Rattle.geos_cli.proofs.BytesPut.{left_alone}
use Rattle.geos_cli.proofs.BytesWays.{called, resize-locked}
use Rattle.geos_cli.proofs.bytes.resize_locked.Goals as goal

pub returns : goal.returns
returns g c =
    let medium = g.D.Device.medium in
    let old = c.args.kernel.now in
    let new = c.lrealloc-done.new.self in
    let result = c.lrealloc-done.result in
    let between = between-leaving medium old new c.lrealloc-done.ensures.vm in
    let known = c.memory_is_legal.ensures.file in
    let calls = subst (λ (n : Name). Calls (medium.honest old.device) (lrealloc n c.args.c c.args.n) result old.core new.core) c.vm.ensures
    c.lrealloc-done.ensures.calls in
    record {
      leads = called medium old new (g.met.D.Device.at_once old.device) c.memory_is_legal.ensures.kept (lrealloc (vm c.args.h) c.args.c c.args.n)
          result between.stops calls;
      locked = resize-locked medium old new c.args.h known.0 known.1 (c.memory_is_legal.ensures.locks known.0 known.1 (vm c.args.h))
          (λ f tied. c.memory_is_legal-2.ensures.locks f (file-on (medium.honest old.device) (medium.honest new.device) between.honest.0 new.core f
          tied) (vm c.args.h)) c.args.c c.args.n result calls c.requires.locked;
      honest = between.honest;
      unwritten = left_alone medium old new c.lrealloc-done.ensures.vm;
    }
