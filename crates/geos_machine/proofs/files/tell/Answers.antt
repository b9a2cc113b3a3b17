use Rattle.std.proofs.Common.{refl}
use Rattle.geos_semantics.specs.State.{with_word}
use Rattle.geos_machine.proofs.OfFile.{answered-done, answered-refused}
use Rattle.geos_machine.proofs.files.tell.Goals as goal

pub returns-in-Ok-clause-works : goal.returns-in-Ok-clause-works
returns-in-Ok-clause-works g c =
    let honest : Type 0 = g.D.Device.medium.honest c.args.kernel.now.device in
    answered-done honest c.args.i.now c.args.kernel.now.core c.told.new.kernel.core c.args.m.now _ (with_word c.args.i.now.a)
    c.in-Ok.n c.in-Ok.ensures.answers (λ beside pc. rw c.requires.a refl) refl refl

pub returns-in-Err-clause-works : goal.returns-in-Err-clause-works
returns-in-Err-clause-works g c =
    let honest : Type 0 = g.D.Device.medium.honest c.args.kernel.now.device in
    rw c.refuse.ensures.goes (answered-refused honest c.args.i.now c.args.kernel.now.core c.told.new.kernel.core
    c.args.m.now _ (with_word c.args.i.now.a) c.in-Err.refusal c.in-Err.ensures.answers c.refuse.ensures.registers)
