use Rattle.std.proofs.Common.{refl, get_or}
use Rattle.geos_terms.specs.Names.{mem}
use Rattle.geos_calls.specs.Calls.{deref}
use Rattle.geos_opcodes.specs.Facts.{uses_of}
use Rattle.geos_machine.proofs.Works.{slot-locked, on-further}
use Rattle.geos_machine.proofs.Through.{pointer-set, pointer-refused}
use Rattle.geos_machine.proofs.Safe.{looks-held}
use Rattle.geos_opcodes.specs.declared.opcode.Opcode.TheVariants.{Deref}
use Rattle.geos_machine.proofs.chunks.deref.Goals as goal

pub deref-requires : goal.deref-requires
deref-requires g c =
    let i = c.args.i.now in
    let honest : Type 0 = g.D.Device.medium.honest c.args.kernel.now.device in
    rw c.index_a-a.ensures (slot-locked honest i c.args.kernel.now.core c.args.m.now (mem 0) c.requires.ready
    (λ beside pc safe. looks-held i _ (uses_of Deref) (rw c.requires.instr.is refl) (λ t. refl) safe))

pub returns-in-Ok : goal.returns-in-Ok
returns-in-Ok g c =
    let i = c.args.i.now in
    let honest : Type 0 = g.D.Device.medium.honest c.args.kernel.now.device in
    rw c.index_b-b.ensures (on-further honest i c.args.kernel.now.core c.args.kernel.now.core c.args.m.now _
    (pointer-set honest i c.args.kernel.now.core c.args.m.now _ (mem 0) (λ name. deref name (get_or c.args.m.now.words i.c 0) i.imm)
    (λ name choice memory. refl)
    (λ beside pc safe. looks-held i _ (uses_of Deref) (rw c.requires.instr.is refl) (λ t. refl) safe)
    (λ image choice beside pc. rw c.requires.instr.is refl) c.in-Ok.field-0
    (rw (c.index_a-a.ensures, c.index_c-c.ensures) at c.in-Ok.ensures.gives) refl))

pub returns-in-Err-BadChunk : goal.returns-in-Err-BadChunk
returns-in-Err-BadChunk g c =
    let i = c.args.i.now in
    let honest : Type 0 = g.D.Device.medium.honest c.args.kernel.now.device in
    rw c.refuse.ensures.goes (pointer-refused honest i c.args.kernel.now.core c.args.m.now _ (mem 0)
    (λ name. deref name (get_or c.args.m.now.words i.c 0) i.imm) (λ name choice memory. refl)
    (λ beside pc safe. looks-held i _ (uses_of Deref) (rw c.requires.instr.is refl) (λ t. refl) safe)
    (λ image choice beside pc. rw c.requires.instr.is refl) c.in-Err-BadChunk.field-0
    (rw (c.index_a-a.ensures, c.index_c-c.ensures) at c.in-Err-BadChunk.ensures.gives)
    (rw c.in-Err-BadChunk.field-0-is c.refuse.ensures.registers))

pub returns-in-Err : goal.returns-in-Err
returns-in-Err g c =
    let i = c.args.i.now in
    let honest : Type 0 = g.D.Device.medium.honest c.args.kernel.now.device in
    rw c.refuse-in-Err.ensures.goes (pointer-refused honest i c.args.kernel.now.core c.args.m.now _ (mem 0)
    (λ name. deref name (get_or c.args.m.now.words i.c 0) i.imm) (λ name choice memory. refl)
    (λ beside pc safe. looks-held i _ (uses_of Deref) (rw c.requires.instr.is refl) (λ t. refl) safe)
    (λ image choice beside pc. rw c.requires.instr.is refl) c.in-Err.refusal
    (rw (c.index_a-a.ensures, c.index_c-c.ensures) at c.in-Err.ensures.gives) c.refuse-in-Err.ensures.registers)
