use Rattle.std.proofs.Common.{refl}
use Rattle.geos_machine.proofs.Through.{pointer-stands, pointer-writable, pointer-long, copied}
use Rattle.geos_machine.proofs.Works.{on-further}
use Rattle.geos_machine.proofs.Safe.{copies-safe, copies-marked}
use Rattle.geos_machine.proofs.access.copy.Goals as goal

pub copy-requires-clause-to : goal.copy-requires-clause-to
copy-requires-clause-to g c =
    let i = c.args.i.now in
    let honest : Type 0 = g.D.Device.medium.honest c.args.kernel.now.device in
    rw c.requires.instr.a_is (
      pointer-writable honest i c.args.kernel.now.core c.args.m.now i.a (record { at = 0; len = 0 }) c.requires.ready
          (λ beside pc safe. copies-marked i _ (rw c.requires.instr.is refl) safe),
      pointer-long honest i c.args.kernel.now.core c.args.m.now i.a i.imm (record { at = 0; len = 0 }) c.requires.ready
          (λ beside pc safe. let p = copies-safe i _ (rw c.requires.instr.is refl) safe in (p.0, p.2)),
    )

pub copy-requires-clause-from : goal.copy-requires-clause-from
copy-requires-clause-from g c =
    let i = c.args.i.now in
    let honest : Type 0 = g.D.Device.medium.honest c.args.kernel.now.device in (
      pointer-stands honest i c.args.kernel.now.core c.args.m.now i.b (record { at = 0; len = 0 }) c.requires.ready
          (λ beside pc safe. (copies-safe i _ (rw c.requires.instr.is refl) safe).1),
      pointer-long honest i c.args.kernel.now.core c.args.m.now i.b i.imm (record { at = 0; len = 0 }) c.requires.ready
          (λ beside pc safe. let p = copies-safe i _ (rw c.requires.instr.is refl) safe in (p.1, p.3)),
    )

pub returns-clause-works : goal.returns-clause-works
returns-clause-works g c =
    let i = c.args.i.now in
    let honest : Type 0 = g.D.Device.medium.honest c.args.kernel.now.device in
    on-further honest i c.args.kernel.now.core c.copy.new.self.core c.args.m.now c.args.m.now
    (copied honest i c.args.kernel.now.core c.copy.new.self.core c.args.m.now (record { at = 0; len = 0 })
    (λ beside pc safe. let p = copies-safe i _ (rw c.requires.instr.is refl) safe in (p.0, p.1))
    (λ image choice beside pc. rw c.requires.instr.is refl)
    (rw c.requires.instr.a_is at c.copy.ensures.row))
