use Rattle.std.proofs.Common.{refl, sym, subst}
use Rattle.geos_terms.specs.Names.{mem}
use Rattle.geos_calls.specs.ChunkCalls.{change_row}
use Rattle.geos_calls.proofs.Laws.{change-shape}
use Rattle.geos_semantics.specs.Model.{nowhere}
use Rattle.geos_machine.specs.Machine.{IsPlain}
use Rattle.geos_machine.proofs.Works.{slot-done, slot-refused, slot-locked, slot-may-change}
use Rattle.geos_machine.proofs.Safe.{change-held, change-marked}
use Rattle.geos_machine.proofs.chunks.change.Goals as goal

pub change-requires-clause-locked : goal.change-requires-clause-locked
change-requires-clause-locked g c =
    let i = c.args.i.now in
    let honest : Type 0 = g.D.Device.medium.honest c.args.kernel.now.device in
    rw c.requires.a (slot-locked honest i c.args.kernel.now.core c.args.m.now (mem 0) c.requires.ready
    (λ beside pc safe. change-held i _ safe c.requires.changes))

pub change-requires-clause-marked : goal.change-requires-clause-marked
change-requires-clause-marked g c =
    let i = c.args.i.now in
    let honest : Type 0 = g.D.Device.medium.honest c.args.kernel.now.device in
    rw c.requires.a (slot-may-change honest i c.args.kernel.now.core c.args.m.now (mem 0) c.requires.ready
    (λ beside pc safe. change-marked i _ safe c.requires.changes))

pub returns-in-Ok-clause-works : goal.returns-in-Ok-clause-works
returns-in-Ok-clause-works g c =
    let i = c.args.i.now in
    let honest : Type 0 = g.D.Device.medium.honest c.args.kernel.now.device in
    let change = c.change_at-change.result in
    slot-done honest i c.args.kernel.now.core c.change.new.self.core c.args.m.now _ (mem 0) (λ name. change_row name change)
    nowhere (λ name choice memory. subst IsPlain (sym (change-shape name change memory choice).1) tt)
    (λ beside pc safe. change-held i _ safe c.requires.changes)
    (λ image choice beside pc. c.change_at-change.ensures.chunks c.requires.changes image choice c.args.kernel.now.core beside pc) tt
    (rw c.requires.a at c.in-Ok.ensures.calls) (λ beside pc. refl) refl refl

pub returns-in-Err-clause-works : goal.returns-in-Err-clause-works
returns-in-Err-clause-works g c =
    let i = c.args.i.now in
    let honest : Type 0 = g.D.Device.medium.honest c.args.kernel.now.device in
    let change = c.change_at-change.result in
    rw c.refuse.ensures.goes (slot-refused honest i c.args.kernel.now.core c.change.new.self.core c.args.m.now _
    (mem 0) (λ name. change_row name change) nowhere (λ name choice memory. subst IsPlain (sym (change-shape name change memory choice).1) tt)
    (λ beside pc safe. change-held i _ safe c.requires.changes)
    (λ image choice beside pc. c.change_at-change.ensures.chunks c.requires.changes image choice c.args.kernel.now.core beside pc) c.in-Err.refusal
    (rw c.requires.a at c.in-Err.ensures.calls) c.refuse.ensures.registers)
