use Rattle.std.proofs.Common.{false, refl, get_or}
use Rattle.geos_calls.specs.Calls.{mlock}
use Rattle.geos_terms.specs.declared.refusal.Refusal.TheVariants.{BadHandle}
use Rattle.geos_opcodes.specs.declared.uses.Kind.TheVariants.{MemBlock}
use Rattle.geos_semantics.specs.Model.{holding}
use Rattle.geos_machine.proofs.Works.{call-refused, on-further, slot-locked-into}
use Rattle.geos_machine.proofs.blocks.mlock.Goals as goal

pub returns-in-Ok-clause-works : goal.returns-in-Ok-clause-works
returns-in-Ok-clause-works g c =
    let i = c.args.i.now in
    let honest : Type 0 = g.D.Device.medium.honest c.args.kernel.now.device in
    on-further honest i c.args.kernel.now.core c.mlock.new.self.core c.args.m.now _
    (slot-locked-into honest i c.args.kernel.now.core c.mlock.new.self.core c.args.m.now _ (mlock (get_or c.args.m.now.words i.b 0))
    (λ done t. holding MemBlock i.a (get_or c.args.m.now.words i.b 0) t) tt
    (record { kind = MemBlock; handle = get_or c.args.m.now.words i.b 0; borrowed = false })
    (rw c.index_b-b.ensures at c.in-Ok.ensures.calls) (λ choice memory. refl) (λ image choice beside pc. rw c.requires.instr.is refl)
    (λ beside pc. refl)
    (rw (c.index_a-a.ensures, c.mem.ensures, c.index_b-b.ensures) refl) refl)

pub returns-in-Err-BadHandle-clause-works : goal.returns-in-Err-BadHandle-clause-works
returns-in-Err-BadHandle-clause-works g c =
    let i = c.args.i.now in
    let honest : Type 0 = g.D.Device.medium.honest c.args.kernel.now.device in
    rw c.refuse.ensures.goes (call-refused honest i c.args.kernel.now.core c.mlock.new.self.core c.args.m.now _
    (mlock (get_or c.args.m.now.words i.b 0)) (λ done t. holding MemBlock i.a (get_or c.args.m.now.words i.b 0) t)
    (λ choice memory. tt) (λ image choice beside pc. rw c.requires.instr.is refl)
    BadHandle (rw (c.in-Err-BadHandle.field-0-is, c.index_b-b.ensures) at c.in-Err-BadHandle.ensures.calls) c.refuse.ensures.registers)

pub returns-in-Err-clause-works : goal.returns-in-Err-clause-works
returns-in-Err-clause-works g c =
    let i = c.args.i.now in
    let honest : Type 0 = g.D.Device.medium.honest c.args.kernel.now.device in
    rw c.refuse-in-Err.ensures.goes (call-refused honest i c.args.kernel.now.core c.mlock.new.self.core c.args.m.now _
    (mlock (get_or c.args.m.now.words i.b 0)) (λ done t. holding MemBlock i.a (get_or c.args.m.now.words i.b 0) t)
    (λ choice memory. tt) (λ image choice beside pc. rw c.requires.instr.is refl)
    c.in-Err.refusal (rw c.index_b-b.ensures at c.in-Err.ensures.calls) c.refuse-in-Err.ensures.registers)
