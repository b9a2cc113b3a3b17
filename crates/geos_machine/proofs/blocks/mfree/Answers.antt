use Rattle.std.proofs.Common.{refl, get_or}
use Rattle.geos_calls.specs.Calls.{mfree}
use Rattle.geos_semantics.specs.Model.{nowhere}
use Rattle.geos_machine.proofs.Works.{call-done, call-refused}
use Rattle.geos_machine.proofs.blocks.mfree.Goals as goal

pub returns-in-Ok-clause-works : goal.returns-in-Ok-clause-works
returns-in-Ok-clause-works g c =
    let i = c.args.i.now in
    let honest : Type 0 = g.D.Device.medium.honest c.args.kernel.now.device in
    call-done honest i c.args.kernel.now.core c.mfree.new.self.core c.args.m.now _ (mfree (get_or c.args.m.now.words i.a 0))
    nowhere (λ choice memory. tt) (λ image choice beside pc. rw c.requires.instr.is refl)
    tt (rw c.requires.instr.a_is at c.in-Ok.ensures.calls) (λ beside pc. refl) refl refl

pub returns-in-Err-clause-works : goal.returns-in-Err-clause-works
returns-in-Err-clause-works g c =
    let i = c.args.i.now in
    let honest : Type 0 = g.D.Device.medium.honest c.args.kernel.now.device in
    rw c.refuse.ensures.goes (call-refused honest i c.args.kernel.now.core c.mfree.new.self.core c.args.m.now _
    (mfree (get_or c.args.m.now.words i.a 0)) nowhere (λ choice memory. tt) (λ image choice beside pc. rw c.requires.instr.is refl)
    c.in-Err.refusal (rw c.requires.instr.a_is at c.in-Err.ensures.calls) c.refuse.ensures.registers)
