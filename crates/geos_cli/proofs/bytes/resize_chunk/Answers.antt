use Rattle.block_handles.specs.Store.{locks_of}
use Rattle.vm_blocks.specs.View.{vm_slot}
use Rattle.geos_cli.specs.declared.bytes.Place.TheVariants.{Chunk}
use Rattle.geos_cli.specs.Bytes.{NotResized}
use Rattle.geos_cli.specs.Script.{LeadsOn}
use Rattle.geos_cli.proofs.BytesPut.{left_alone, on-ok, only_read, unwritten_on}
use Rattle.geos_cli.proofs.BytesRefused.{unsized-chunk, unsized-unlocked}
use Rattle.geos_cli.proofs.BytesWays.{locked-now, resized-chunk}
use Rattle.geos_cli.proofs.Sessions.{passed-on}
use Rattle.geos_cli.proofs.bytes.resize_chunk.Goals as goal

pub mark-requires : goal.mark-requires
mark-requires g c =
    locked-now c.args.h (locks_of c.args.kernel.now.core.blocks (vm_slot c.args.h)) (locks_of c.lock.new.kernel.core.blocks (vm_slot c.args.h))
    (c.in_ok-lock.ensures.counts c.args.h)

pub returns : goal.returns
returns g c =
    let medium = g.D.Device.medium in
    let old = c.args.kernel.now in
    let locked = c.lock.new.kernel in
    let marked = c.mark.new.kernel in
    let resized = c.resize_locked-done.new.kernel in
    let new = c.unlock.new.kernel in
    let one = c.lock.ensures.honest in
    let two = c.mark.ensures.honest in
    let three = c.resize_locked-done.ensures.honest in
    let four = c.unlock.ensures.honest in
    record {
      leads = resized-chunk medium old locked marked resized new c.args.h c.args.c c.args.n c.resize_locked-done.result one two three
          c.in_ok-lock.ensures.leads c.mark.ensures.leads c.resize_locked-done.ensures.leads c.unlock.ensures.leads;
      refused = unsized-chunk medium old locked marked resized new c.args.h c.args.c c.args.n c.resize_locked-done.result one two three
          c.in_ok-lock.ensures.leads c.mark.ensures.leads c.resize_locked-done.ensures.leads c.unlock.ensures.leads;
      honest = on-ok c.resize_locked-done.result
          ((λ h. one.0 (two.0 (three.0 (four.0 h)))), (λ h. four.1 (three.1 (two.1 (one.1 h)))));
      unwritten = unwritten_on medium old.device resized.device new.device
          (unwritten_on medium old.device marked.device resized.device
          (unwritten_on medium old.device locked.device marked.device (only_read medium old.device locked.device c.lock.ensures.reads)
          c.mark.ensures.unwritten) c.resize_locked-done.ensures.unwritten)
          (left_alone medium resized new c.unlock.ensures.vm);
    }

pub returns-in_err-lock-clause-unwritten : goal.returns-in_err-lock-clause-unwritten
returns-in_err-lock-clause-unwritten g c = only_read g.D.Device.medium c.args.kernel.now.device c.lock.new.kernel.device c.lock.ensures.reads

pub returns-in_err-lock-clause-refused : goal.returns-in_err-lock-clause-refused
returns-in_err-lock-clause-refused g c =
    let old = c.args.kernel.now in
    let new = c.lock.new.kernel in
    passed-on (λ why. LeadsOn g.D.Device.medium old new (λ allows. NotResized allows (Chunk c.args.h c.args.c) c.args.n why)) _ _
    c.from_residual.ensures.1 (unsized-unlocked g.D.Device.medium old new c.args.h c.args.c c.args.n _ c.in_err-lock.ensures.leads)
