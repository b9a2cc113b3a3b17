use Rattle.std.proofs.Common.{false, refl, get_or}
use Rattle.geos_calls.specs.VmCalls.{vnew}
use Rattle.geos_opcodes.specs.declared.uses.Kind.TheVariants.{VmBlock}
use Rattle.geos_semantics.specs.State.{with_word}
use Rattle.geos_semantics.specs.Model.{holding}
use Rattle.geos_machine.proofs.Works.{call-refused, slot-locked-into}
use Rattle.geos_kernel.proofs.Stops.{between-asking}
use Rattle.geos_machine.proofs.files.vnew.Goals as goal

pub returns-in-Ok-clause-works : goal.returns-in-Ok-clause-works
returns-in-Ok-clause-works g c =
    let i = c.args.i.now in
    let honest : Type 0 = g.D.Device.medium.honest c.args.kernel.now.device in
    slot-locked-into honest i c.args.kernel.now.core c.vnew.new.self.core c.args.m.now _ (vnew (get_or c.args.m.now.words i.c 0))
    (λ h t. holding VmBlock i.a h (with_word i.b h t)) c.in-Ok.h (record { kind = VmBlock; handle = c.in-Ok.h; borrowed = false })
    c.in-Ok.ensures.calls (λ choice memory. refl)
    (λ image choice beside pc. rw c.requires.instr.is refl) (λ beside pc. refl) (rw (c.requires.instr.a_is, c.vm.ensures) refl) refl

pub returns-in-Err-clause-works : goal.returns-in-Err-clause-works
returns-in-Err-clause-works g c =
    let i = c.args.i.now in
    let honest : Type 0 = g.D.Device.medium.honest c.args.kernel.now.device in
    rw c.refuse.ensures.goes (call-refused honest i c.args.kernel.now.core c.vnew.new.self.core c.args.m.now _
    (vnew (get_or c.args.m.now.words i.c 0)) (λ h t. holding VmBlock i.a h (with_word i.b h t)) (λ choice memory. tt)
    (λ image choice beside pc. rw c.requires.instr.is refl)
    c.in-Err.refusal c.in-Err.ensures.calls c.refuse.ensures.registers)

pub returns-in-Ok-clause-between : goal.returns-in-Ok-clause-between
returns-in-Ok-clause-between g c = between-asking g.D.Device.medium c.args.kernel.now c.vnew.new.self c.vnew.ensures.device

pub returns-in-Err-clause-between : goal.returns-in-Err-clause-between
returns-in-Err-clause-between g c = between-asking g.D.Device.medium c.args.kernel.now c.vnew.new.self c.vnew.ensures.device
