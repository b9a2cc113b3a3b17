use Rattle.std.proofs.Common.{◌+◌, refl, ◌∙◌, [], ◌∷◌, ap, arith}
use Rattle.geos_opcodes.specs.declared.uses.Width.TheVariants.{Byte}
use Rattle.geos_opcodes.specs.declared.uses.Offset.TheVariants.{Fixed}
use Rattle.geos_machine.proofs.Through.{store-done, store-reaches, store-writable}
use Rattle.geos_machine.proofs.access.stb.Goals as goal

pub store8-requires-clause-stands : goal.store8-requires-clause-stands
store8-requires-clause-stands g c =
    let i = c.args.i.now in
    let k = c.args.kernel.now.core in
    let m = c.args.m.now in
    let honest : Type 0 = g.D.Device.medium.honest c.args.kernel.now.device in
    rw c.index_b-b.ensures (store-writable honest i k k m Byte Fixed (rw c.requires.instr.is refl) c.requires.ready)

pub store8-requires-clause-within : goal.store8-requires-clause-within
store8-requires-clause-within g c =
    let i = c.args.i.now in
    let k = c.args.kernel.now.core in
    let m = c.args.m.now in
    let honest : Type 0 = g.D.Device.medium.honest c.args.kernel.now.device in
    let long = store-reaches honest i k k m Byte Fixed (rw c.requires.instr.is refl) c.requires.ready (i.imm + 1) (λ beside pc. refl) in
    rw c.index_b-b.ensures (omega (arith, long))

pub returns-clause-works : goal.returns-clause-works
returns-clause-works g c =
    let i = c.args.i.now in
    let k = c.args.kernel.now.core in
    let m = c.args.m.now in
    let honest : Type 0 = g.D.Device.medium.honest c.args.kernel.now.device in
    store-done honest i k c.store8.new.self.core m Byte Fixed (rw c.requires.instr.is refl) i.imm (c.low_byte.result ∷ [])
    (ap (λ b. b ∷ []) (c.low_byte.ensures ∙ rw c.index_a-a.ensures refl)) (λ image choice kernel beside pc. rw c.requires.instr.is refl)
    (rw c.index_b-b.ensures at c.store8.ensures.row)
