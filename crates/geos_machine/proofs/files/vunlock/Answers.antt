use Rattle.std.proofs.Common.{get_or, refl, subst, sym}
use Rattle.std.specs.Prelude.{Ok}
use Rattle.geos_terms.specs.Names.{mem, vm}
use Rattle.geos_calls.specs.Calls.{unlock}
use Rattle.geos_opcodes.specs.declared.uses.Kind.TheVariants.{VmBlock}
use Rattle.geos_kernel.specs.Kernel.{Calls}
use Rattle.geos_kernel.specs.View.{IsLocked}
use Rattle.geos_machine.proofs.Works.{on-further, slot-unlocked, slot-locked}
use Rattle.geos_machine.proofs.Safe.{unlocks-held}
use Rattle.geos_machine.proofs.Named.{unlocked-name}
use Rattle.geos_machine.proofs.files.vunlock.Goals as goal

pub munlock-requires : goal.munlock-requires
munlock-requires g c =
    let i = c.args.i.now in
    let k = c.args.kernel.now.core in
    let honest : Type 0 = g.D.Device.medium.honest c.args.kernel.now.device in
    let named = unlocked-name honest i k c.args.m.now (mem 0) VmBlock c.requires.ready (rw c.requires.instr.is refl) in
    rw (c.vm.ensures, c.requires.instr.a_is) (subst (λ name. IsLocked k name) named (slot-locked honest i k c.args.m.now (mem 0) c.requires.ready
    (λ beside pc safe. unlocks-held i _ VmBlock (rw c.requires.instr.is refl) safe)))

pub returns-clause-works : goal.returns-clause-works
returns-clause-works g c =
    let i = c.args.i.now in
    let k = c.args.kernel.now.core in
    let l = c.munlock.new.self.core in
    let honest : Type 0 = g.D.Device.medium.honest c.args.kernel.now.device in
    let named = unlocked-name honest i k c.args.m.now (mem 0) VmBlock c.requires.ready (rw c.requires.instr.is refl) in
    let calls : Calls honest (unlock (vm (get_or c.args.m.now.slots i.a (mem 0)).h)) (Ok tt) k l
    = rw (c.vm.ensures, c.requires.instr.a_is) at c.munlock.ensures.calls in
    on-further honest i k l c.args.m.now c.args.m.now
    (slot-unlocked honest i k l c.args.m.now (mem 0) unlock
    (λ name choice memory. refl) (λ beside pc safe. unlocks-held i _ VmBlock (rw c.requires.instr.is refl) safe)
    (λ image choice beside pc. rw c.requires.instr.is refl) (subst (λ name. Calls honest (unlock name) (Ok tt) k l) (sym named) calls))
