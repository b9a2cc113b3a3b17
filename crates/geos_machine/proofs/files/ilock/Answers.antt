use Rattle.std.proofs.Common.{false, refl, get_or}
use Rattle.geos_calls.specs.ItemCalls.{ilock}
use Rattle.geos_opcodes.specs.declared.uses.Kind.TheVariants.{DbGroup}
use Rattle.geos_semantics.specs.Model.{holding, leading}
use Rattle.geos_machine.proofs.OfFile.{span-locked-into, span-refused}
use Rattle.geos_machine.proofs.files.ilock.Goals as goal

pub returns-in-Ok-clause-works : goal.returns-in-Ok-clause-works
returns-in-Ok-clause-works g c =
    let i = c.args.i.now in
    let honest : Type 0 = g.D.Device.medium.honest c.args.kernel.now.device in
    span-locked-into honest i c.args.kernel.now.core c.ilock.new.self.core c.args.m.now _
    (ilock (get_or c.args.m.now.words i.c 0) (get_or c.args.m.now.words i.d 0) i.imm)
    (λ ref t. leading i.b i.a ref (holding DbGroup i.a (get_or c.args.m.now.words i.c 0) t)) (λ choice memory. refl)
    (λ image choice beside pc. rw c.requires.instr.is refl) (record { kind = DbGroup; handle = get_or c.args.m.now.words i.c 0; borrowed = false })
    c.in-Ok.span (λ ref beside pc. refl) (rw (c.requires.instr.a_is, c.vm.ensures) refl) refl c.in-Ok.ensures.gives

pub returns-in-Err-clause-works : goal.returns-in-Err-clause-works
returns-in-Err-clause-works g c =
    let i = c.args.i.now in
    let honest : Type 0 = g.D.Device.medium.honest c.args.kernel.now.device in
    rw c.refuse.ensures.goes (span-refused honest i c.args.kernel.now.core c.ilock.new.self.core c.args.m.now _
    (ilock (get_or c.args.m.now.words i.c 0) (get_or c.args.m.now.words i.d 0) i.imm)
    (λ ref t. leading i.b i.a ref (holding DbGroup i.a (get_or c.args.m.now.words i.c 0) t)) (λ choice memory. refl)
    (λ image choice beside pc. rw c.requires.instr.is refl) c.in-Err.refusal c.refuse.ensures.registers c.in-Err.ensures.gives)

pub returns-in-Ok-clause-between : goal.returns-in-Ok-clause-between
returns-in-Ok-clause-between g c = c.ilock.ensures.device.between

pub returns-in-Err-clause-between : goal.returns-in-Err-clause-between
returns-in-Err-clause-between g c = c.ilock.ensures.device.between
