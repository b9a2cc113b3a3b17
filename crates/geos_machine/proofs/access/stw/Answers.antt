use Rattle.std.proofs.Common.{rules, ◌+◌, refl, ◌∙◌}
use Rattle.geos_opcodes.specs.declared.uses.Width.TheVariants.{Both}
use Rattle.geos_opcodes.specs.declared.uses.Offset.TheVariants.{Fixed}
use Rattle.geos_machine.proofs.Through.{store-done, store-reaches, store-writable, stored-bytes}
use Rattle.geos_machine.proofs.access.stw.Goals as goal

pub store16-requires-clause-stands : goal.store16-requires-clause-stands
store16-requires-clause-stands g c =
    let i = c.args.i.now in
    let k = c.args.kernel.now.core in
    let m = c.args.m.now in
    let honest : Type 0 = g.D.Device.medium.honest c.args.kernel.now.device in
    rw c.index_b-b.ensures (store-writable honest i k k m Both Fixed (rw c.requires.instr.is refl) c.requires.ready)

pub store16-requires-clause-within : goal.store16-requires-clause-within
store16-requires-clause-within g c =
    let i = c.args.i.now in
    let k = c.args.kernel.now.core in
    let m = c.args.m.now in
    let honest : Type 0 = g.D.Device.medium.honest c.args.kernel.now.device in
    rw c.index_b-b.ensures (store-reaches honest i k k m Both Fixed (rw c.requires.instr.is refl) c.requires.ready (i.imm + 2) (λ beside pc. refl))

pub returns-clause-works : goal.returns-clause-works
returns-clause-works g c =
    let i = c.args.i.now in
    let k = c.args.kernel.now.core in
    let m = c.args.m.now in
    let honest : Type 0 = g.D.Device.medium.honest c.args.kernel.now.device in
    store-done honest i k c.store16.new.self.core m Both Fixed (rw c.requires.instr.is refl) i.imm _
    (stored-bytes _ (search rules) ∙ rw c.index_a-a.ensures refl) (λ image choice kernel beside pc. rw c.requires.instr.is refl)
    (rw c.index_b-b.ensures at c.store16.ensures.row)
