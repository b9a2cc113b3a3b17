use Rattle.std.proofs.Common.{sym, subst}
use Rattle.std.specs.Prelude.{Ok, Err}
use Rattle.block_handles.specs.Store.{locks_of}
use Rattle.vm_blocks.specs.View.{vm_slot}
use Rattle.geos_terms.specs.declared.name.Name.{Name}
use Rattle.geos_calls.specs.Calls.{deref}
use Rattle.geos_kernel.specs.Kernel.{LeadsToSpan}
use Rattle.geos_kernel.specs.Spans.{IsWritable}
use Rattle.geos_kernel.specs.View.{IsLocked, MayChange}
use Rattle.geos_cli.specs.declared.bytes.Place.TheVariants.{Chunk}
use Rattle.geos_cli.specs.Bytes.{NotOpened}
use Rattle.geos_cli.specs.Script.{LeadsOn}
use Rattle.geos_cli.proofs.BytesPut.{left_alone, only_read, unwritten_on}
use Rattle.geos_cli.proofs.BytesRefused.{chunk-refused, lock-refused}
use Rattle.geos_cli.proofs.BytesWays.{locked-now, opened-chunk}
use Rattle.geos_cli.proofs.Sessions.{passed-on}
use Rattle.geos_cli.proofs.bytes.open_chunk.Goals as goal

pub deref-requires : goal.deref-requires
deref-requires g c =
    let locked = c.lock.new.kernel.core in
    subst (λ (n : Name). IsLocked locked n) (sym c.vm.ensures)
    (locked-now c.args.h (locks_of c.args.kernel.now.core.blocks (vm_slot c.args.h)) (locks_of locked.blocks (vm_slot c.args.h))
    (c.in_ok-lock.ensures.counts c.args.h))

pub unlock-requires : goal.unlock-requires
unlock-requires g c =
    locked-now c.args.h (locks_of c.args.kernel.now.core.blocks (vm_slot c.args.h)) (locks_of c.lock.new.kernel.core.blocks (vm_slot c.args.h))
    (c.in_ok-lock.ensures.counts c.args.h)

pub returns-in-Ok : goal.returns-in-Ok
returns-in-Ok g c =
    let medium = g.D.Device.medium in
    let old = c.args.kernel.now in
    let locked = c.lock.new.kernel in
    let known = c.memory_is_legal.ensures.file in
    let gives = subst (λ (n : Name). LeadsToSpan (medium.honest locked.device) (deref n c.args.c c.args.n) (Ok c.in-Ok.span) locked.core locked.core)
    c.vm.ensures c.in-Ok.ensures.gives in
    let may = subst (λ (n : Name). MayChange locked.core n → IsWritable locked.core c.in-Ok.span) c.vm.ensures c.in-Ok.ensures.writable in
    record {
      opened = opened-chunk medium old locked c.args.h c.args.c c.args.n c.in-Ok.span c.lock.ensures.honest c.in_ok-lock.ensures.leads
          (g.met.D.Device.at_once locked.device) c.memory_is_legal.ensures.kept known.0 known.1 gives c.in-Ok.ensures.stands.1 may;
      refused = tt;
      unwritten = only_read medium old.device locked.device c.lock.ensures.reads;
    }

pub returns-in-Err : goal.returns-in-Err
returns-in-Err g c =
    let medium = g.D.Device.medium in
    let old = c.args.kernel.now in
    let locked = c.lock.new.kernel in
    let gives = subst (λ (n : Name). LeadsToSpan (medium.honest locked.device) (deref n c.args.c c.args.n) (Err c.in-Err.refusal) locked.core locked.core)
    c.vm.ensures c.in-Err.ensures.gives in
    record {
      opened = tt;
      refused = chunk-refused medium old locked c.unlock.new.kernel c.args.h c.args.c c.args.n c.in-Err.refusal c.lock.ensures.honest
          c.in_ok-lock.ensures.leads (g.met.D.Device.at_once locked.device) c.memory_is_legal.ensures.kept gives c.unlock.ensures.leads;
      unwritten = unwritten_on medium old.device locked.device c.unlock.new.kernel.device
          (only_read medium old.device locked.device c.lock.ensures.reads) (left_alone medium locked c.unlock.new.kernel c.unlock.ensures.vm);
    }

pub returns-in_err-lock-clause-unwritten : goal.returns-in_err-lock-clause-unwritten
returns-in_err-lock-clause-unwritten g c = only_read g.D.Device.medium c.args.kernel.now.device c.lock.new.kernel.device c.lock.ensures.reads

pub returns-in_err-lock-clause-refused : goal.returns-in_err-lock-clause-refused
returns-in_err-lock-clause-refused g c =
    let old = c.args.kernel.now in
    let new = c.lock.new.kernel in
    passed-on (λ why. LeadsOn g.D.Device.medium old new (λ allows. NotOpened allows (Chunk c.args.h c.args.c) c.args.n why)) _ _
    c.from_residual.ensures.1 (lock-refused g.D.Device.medium old new c.args.h c.args.c c.args.n _ c.in_err-lock.ensures.leads)
