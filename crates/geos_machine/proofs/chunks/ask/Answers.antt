use Rattle.std.proofs.Common.{refl}
use Rattle.geos_terms.specs.Names.{mem}
use Rattle.geos_calls.specs.ChunkCalls.{ask_row}
use Rattle.geos_semantics.specs.State.{with_word}
use Rattle.geos_machine.proofs.Works.{slot-done, slot-refused, slot-locked}
use Rattle.geos_machine.proofs.Safe.{ask-held, ask-word}
use Rattle.geos_machine.proofs.chunks.ask.Goals as goal

pub ask-requires : goal.ask-requires
ask-requires g c =
    let i = c.args.i.now in
    let honest : Type 0 = g.D.Device.medium.honest c.args.kernel.now.device in
    rw c.requires.a (slot-locked honest i c.args.kernel.now.core c.args.m.now (mem 0) c.requires.ready
    (λ beside pc safe. ask-held i _ safe c.requires.asks))

pub bounds-m-i : goal.bounds-m-i
bounds-m-i g c = ask-word c.args.i.now.opcode c.requires.asks c.args.i.now c.requires.fields

pub returns-in-Ok : goal.returns-in-Ok
returns-in-Ok g c =
    let i = c.args.i.now in
    let honest : Type 0 = g.D.Device.medium.honest c.args.kernel.now.device in
    let ask = c.ask_at-ask.result in
    slot-done honest i c.args.kernel.now.core c.args.kernel.now.core c.args.m.now _ (mem 0) (λ name. ask_row name ask)
    (with_word i.b) (λ name choice memory. tt)
    (λ beside pc safe. ask-held i _ safe c.requires.asks)
    (λ image choice beside pc. c.ask_at-ask.ensures image choice c.args.kernel.now.core beside pc) c.in-Ok.n
    (rw c.requires.a at c.in-Ok.ensures) (λ beside pc. refl) refl refl

pub returns-in-Err : goal.returns-in-Err
returns-in-Err g c =
    let i = c.args.i.now in
    let honest : Type 0 = g.D.Device.medium.honest c.args.kernel.now.device in
    let ask = c.ask_at-ask.result in
    rw c.refuse.ensures.goes (slot-refused honest i c.args.kernel.now.core c.args.kernel.now.core c.args.m.now _
    (mem 0) (λ name. ask_row name ask) (with_word i.b) (λ name choice memory. tt)
    (λ beside pc safe. ask-held i _ safe c.requires.asks)
    (λ image choice beside pc. c.ask_at-ask.ensures image choice c.args.kernel.now.core beside pc) c.in-Err.refusal
    (rw c.requires.a at c.in-Err.ensures) c.refuse.ensures.registers)
