use Rattle.std.proofs.Common.{refl, get_or}
use Rattle.geos_terms.specs.Names.{mem}
use Rattle.geos_calls.specs.ArrayCalls.{caelt}
use Rattle.geos_opcodes.specs.Facts.{uses_of}
use Rattle.geos_machine.proofs.Works.{slot-locked}
use Rattle.geos_machine.proofs.Through.{pointer-set, pointer-refused}
use Rattle.geos_machine.proofs.Safe.{looks-held}
use Rattle.geos_opcodes.specs.declared.opcode.Opcode.TheVariants.{Caelt}
use Rattle.geos_machine.proofs.chunks.caelt.Goals as goal

pub caelt-requires : goal.caelt-requires
caelt-requires g c =
    let i = c.args.i.now in
    let honest : Type 0 = g.D.Device.medium.honest c.args.kernel.now.device in
    rw c.requires.instr.a_is (slot-locked honest i c.args.kernel.now.core c.args.m.now (mem 0) c.requires.ready
    (λ beside pc safe. looks-held i _ (uses_of Caelt) (rw c.requires.instr.is refl) (λ t. refl) safe))

pub returns-in-Ok : goal.returns-in-Ok
returns-in-Ok g c =
    let i = c.args.i.now in
    let honest : Type 0 = g.D.Device.medium.honest c.args.kernel.now.device in
    pointer-set honest i c.args.kernel.now.core c.args.m.now _ (mem 0)
    (λ name. caelt name (get_or c.args.m.now.words i.c 0) (get_or c.args.m.now.words i.d 0) i.imm) (λ name choice memory. refl)
    (λ beside pc safe. looks-held i _ (uses_of Caelt) (rw c.requires.instr.is refl) (λ t. refl) safe)
    (λ image choice beside pc. rw c.requires.instr.is refl) c.in-Ok.span (rw c.requires.instr.a_is at c.in-Ok.ensures.gives) refl

pub returns-in-Err : goal.returns-in-Err
returns-in-Err g c =
    let i = c.args.i.now in
    let honest : Type 0 = g.D.Device.medium.honest c.args.kernel.now.device in
    rw c.refuse.ensures.goes (pointer-refused honest i c.args.kernel.now.core c.args.m.now _ (mem 0)
    (λ name. caelt name (get_or c.args.m.now.words i.c 0) (get_or c.args.m.now.words i.d 0) i.imm) (λ name choice memory. refl)
    (λ beside pc safe. looks-held i _ (uses_of Caelt) (rw c.requires.instr.is refl) (λ t. refl) safe)
    (λ image choice beside pc. rw c.requires.instr.is refl) c.in-Err.refusal (rw c.requires.instr.a_is at c.in-Err.ensures.gives)
    c.refuse.ensures.registers)
