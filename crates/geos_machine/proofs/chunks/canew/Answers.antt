use Rattle.std.proofs.Common.{refl}
use Rattle.geos_terms.specs.Names.{mem}
use Rattle.geos_calls.specs.ArrayCalls.{canew}
use Rattle.geos_semantics.specs.State.{with_word}
use Rattle.geos_machine.proofs.Works.{slot-done, slot-refused, slot-locked, slot-may-change}
use Rattle.geos_machine.proofs.Safe.{make-held, make-marked}
use Rattle.geos_machine.proofs.chunks.canew.Goals as goal

pub canew-requires-clause-locked : goal.canew-requires-clause-locked
canew-requires-clause-locked g c =
    let i = c.args.i.now in
    let honest : Type 0 = g.D.Device.medium.honest c.args.kernel.now.device in
    rw c.requires.instr.a_is (slot-locked honest i c.args.kernel.now.core c.args.m.now (mem 0) c.requires.ready
    (λ beside pc safe. make-held i _ safe (rw c.requires.instr.is refl)))

pub canew-requires-clause-marked : goal.canew-requires-clause-marked
canew-requires-clause-marked g c =
    let i = c.args.i.now in
    let honest : Type 0 = g.D.Device.medium.honest c.args.kernel.now.device in
    rw c.requires.instr.a_is (slot-may-change honest i c.args.kernel.now.core c.args.m.now (mem 0) c.requires.ready
    (λ beside pc safe. make-marked i _ safe (rw c.requires.instr.is refl)))

pub returns-in-Ok-clause-works : goal.returns-in-Ok-clause-works
returns-in-Ok-clause-works g c =
    let i = c.args.i.now in
    let honest : Type 0 = g.D.Device.medium.honest c.args.kernel.now.device in
    slot-done honest i c.args.kernel.now.core c.canew.new.self.core c.args.m.now _ (mem 0)
    (λ name. canew name i.imm) (with_word i.b) (λ name choice memory. tt)
    (λ beside pc safe. make-held i _ safe (rw c.requires.instr.is refl))
    (λ image choice beside pc. rw c.requires.instr.is refl) c.in-Ok.chunk
    (rw c.requires.instr.a_is at c.in-Ok.ensures.calls) (λ beside pc. refl) refl refl

pub returns-in-Err-clause-works : goal.returns-in-Err-clause-works
returns-in-Err-clause-works g c =
    let i = c.args.i.now in
    let honest : Type 0 = g.D.Device.medium.honest c.args.kernel.now.device in
    rw c.refuse.ensures.goes (slot-refused honest i c.args.kernel.now.core c.canew.new.self.core c.args.m.now _ (mem 0)
    (λ name. canew name i.imm) (with_word i.b) (λ name choice memory. tt)
    (λ beside pc safe. make-held i _ safe (rw c.requires.instr.is refl))
    (λ image choice beside pc. rw c.requires.instr.is refl) c.in-Err.refusal
    (rw c.requires.instr.a_is at c.in-Err.ensures.calls) c.refuse.ensures.registers)
