use Rattle.std.proofs.Common.{refl}
use Rattle.geos_terms.specs.Names.{mem}
use Rattle.geos_calls.specs.VmCalls as table
use Rattle.geos_semantics.specs.Model.{nowhere}
use Rattle.geos_machine.proofs.OfFile.{does-mark, marked-name, marked-of-file}
use Rattle.geos_machine.proofs.Works.{on-further, slot-done, slot-locked}
use Rattle.geos_machine.proofs.Safe.{slots-right}
use Rattle.geos_kernel.proofs.Stops.{between-asking}
use Rattle.geos_machine.proofs.files.mark.Goals as goal

pub vdirty-requires-clause-kind : goal.vdirty-requires-clause-kind
vdirty-requires-clause-kind g c =
    let i = c.args.i.now in
    let honest : Type 0 = g.D.Device.medium.honest c.args.kernel.now.device in
    rw c.requires.a (marked-name honest i c.args.kernel.now.core c.args.m.now (mem 0) c.requires.ready
    (λ beside pc safe. marked-of-file i.opcode c.requires.marks i _ (slots-right i _ safe)))

pub vdirty-requires-clause-locked : goal.vdirty-requires-clause-locked
vdirty-requires-clause-locked g c =
    let i = c.args.i.now in
    let honest : Type 0 = g.D.Device.medium.honest c.args.kernel.now.device in
    rw c.requires.a (slot-locked honest i c.args.kernel.now.core c.args.m.now (mem 0) c.requires.ready
    (λ beside pc safe. (marked-of-file i.opcode c.requires.marks i _ (slots-right i _ safe)).0))

pub returns-clause-works : goal.returns-clause-works
returns-clause-works g c =
    let i = c.args.i.now in
    let honest : Type 0 = g.D.Device.medium.honest c.args.kernel.now.device in
    on-further honest i c.args.kernel.now.core c.vdirty.new.self.core c.args.m.now c.args.m.now
    (slot-done honest i c.args.kernel.now.core c.vdirty.new.self.core c.args.m.now c.args.m.now (mem 0)
    (λ name. table.vdirty name.h) nowhere (λ name choice memory. tt)
    (λ beside pc safe. (marked-of-file i.opcode c.requires.marks i _ (slots-right i _ safe)).0)
    (λ image choice beside pc. does-mark i.opcode c.requires.marks image choice i _) tt
    (rw c.requires.a at c.vdirty.ensures.calls) (λ beside pc. refl) refl refl)

pub returns-clause-between : goal.returns-clause-between
returns-clause-between g c = between-asking g.D.Device.medium c.args.kernel.now c.vdirty.new.self c.vdirty.ensures.device
