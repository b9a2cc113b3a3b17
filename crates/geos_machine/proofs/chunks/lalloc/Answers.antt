use Rattle.std.proofs.Common.{refl, get_or}
use Rattle.geos_terms.specs.Names.{mem}
use Rattle.geos_calls.specs.Calls.{lalloc}
use Rattle.geos_semantics.specs.State.{with_word}
use Rattle.geos_machine.proofs.Works.{slot-done, slot-refused, slot-locked, slot-may-change, on-further}
use Rattle.geos_machine.proofs.Safe.{make-held, make-marked}
use Rattle.geos_machine.proofs.chunks.lalloc.Goals as goal

pub lalloc-requires-clause-locked : goal.lalloc-requires-clause-locked
lalloc-requires-clause-locked g c =
    let i = c.args.i.now in
    let honest : Type 0 = g.D.Device.medium.honest c.args.kernel.now.device in
    rw c.index_a-a.ensures (slot-locked honest i c.args.kernel.now.core c.args.m.now (mem 0) c.requires.ready
    (λ beside pc safe. make-held i _ safe (rw c.requires.instr.is refl)))

pub lalloc-requires-clause-marked : goal.lalloc-requires-clause-marked
lalloc-requires-clause-marked g c =
    let i = c.args.i.now in
    let honest : Type 0 = g.D.Device.medium.honest c.args.kernel.now.device in
    rw c.index_a-a.ensures (slot-may-change honest i c.args.kernel.now.core c.args.m.now (mem 0) c.requires.ready
    (λ beside pc safe. make-marked i _ safe (rw c.requires.instr.is refl)))

pub returns-in-Ok-clause-works : goal.returns-in-Ok-clause-works
returns-in-Ok-clause-works g c =
    let i = c.args.i.now in
    let honest : Type 0 = g.D.Device.medium.honest c.args.kernel.now.device in
    rw c.index_b-b.ensures (on-further honest i c.args.kernel.now.core c.lalloc.new.self.core c.args.m.now _
    (slot-done honest i c.args.kernel.now.core c.lalloc.new.self.core c.args.m.now _ (mem 0)
    (λ name. lalloc name (get_or c.args.m.now.words i.c 0)) (with_word i.b) (λ name choice memory. tt)
    (λ beside pc safe. make-held i _ safe (rw c.requires.instr.is refl))
    (λ image choice beside pc. rw c.requires.instr.is refl) c.in-Ok.chunk
    (rw (c.index_a-a.ensures, c.index_c-c.ensures) at c.in-Ok.ensures.calls) (λ beside pc. refl) refl refl))

pub returns-in-Err-clause-works : goal.returns-in-Err-clause-works
returns-in-Err-clause-works g c =
    let i = c.args.i.now in
    let honest : Type 0 = g.D.Device.medium.honest c.args.kernel.now.device in
    rw c.refuse.ensures.goes (slot-refused honest i c.args.kernel.now.core c.lalloc.new.self.core c.args.m.now _ (mem 0)
    (λ name. lalloc name (get_or c.args.m.now.words i.c 0)) (with_word i.b) (λ name choice memory. tt)
    (λ beside pc safe. make-held i _ safe (rw c.requires.instr.is refl))
    (λ image choice beside pc. rw c.requires.instr.is refl) c.in-Err.refusal
    (rw (c.index_a-a.ensures, c.index_c-c.ensures) at c.in-Err.ensures.calls) c.refuse.ensures.registers)
