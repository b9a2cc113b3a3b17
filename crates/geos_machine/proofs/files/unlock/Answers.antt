use Rattle.std.proofs.Common.{refl}
use Rattle.geos_terms.specs.Names.{mem}
use Rattle.geos_calls.specs.Calls as table
use Rattle.geos_machine.proofs.OfFile.{does-unlock}
use Rattle.geos_machine.proofs.Works.{on-further, slot-unlocked, slot-locked}
use Rattle.geos_machine.proofs.Safe.{unlock-held}
use Rattle.geos_machine.proofs.files.unlock.Goals as goal

pub munlock-requires : goal.munlock-requires
munlock-requires g c =
    let i = c.args.i.now in
    let honest : Type 0 = g.D.Device.medium.honest c.args.kernel.now.device in
    rw c.requires.a (slot-locked honest i c.args.kernel.now.core c.args.m.now (mem 0) c.requires.ready
    (λ beside pc safe. unlock-held i _ safe c.requires.unlocks))

pub returns-clause-works : goal.returns-clause-works
returns-clause-works g c =
    let i = c.args.i.now in
    let honest : Type 0 = g.D.Device.medium.honest c.args.kernel.now.device in
    on-further honest i c.args.kernel.now.core c.munlock.new.self.core c.args.m.now c.args.m.now
    (slot-unlocked honest i c.args.kernel.now.core c.munlock.new.self.core c.args.m.now (mem 0) table.unlock
    (λ name choice memory. refl) (λ beside pc safe. unlock-held i _ safe c.requires.unlocks)
    (λ image choice beside pc. does-unlock i.opcode c.requires.unlocks image choice i _) (rw c.requires.a at c.munlock.ensures.calls))
