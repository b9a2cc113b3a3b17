use Rattle.std.proofs.Common.{◌+◌, refl, arith}
use Rattle.geos_opcodes.specs.declared.uses.Width.TheVariants.{Byte}
use Rattle.geos_opcodes.specs.declared.uses.Offset.TheVariants.{Fixed}
use Rattle.geos_machine.proofs.Through.{load-done, load-reaches, load-stands}
use Rattle.geos_machine.proofs.access.ldb.Goals as goal

pub load8-requires-clause-stands : goal.load8-requires-clause-stands
load8-requires-clause-stands g c =
    let i = c.args.i.now in
    let k = c.args.kernel.now.core in
    let m = c.args.m.now in
    let honest : Type 0 = g.D.Device.medium.honest c.args.kernel.now.device in
    rw c.index_b-b.ensures (load-stands honest i k m Byte Fixed (rw c.requires.instr.is refl) c.requires.ready)

pub load8-requires-clause-within : goal.load8-requires-clause-within
load8-requires-clause-within g c =
    let i = c.args.i.now in
    let k = c.args.kernel.now.core in
    let m = c.args.m.now in
    let honest : Type 0 = g.D.Device.medium.honest c.args.kernel.now.device in
    let long = load-reaches honest i k m Byte Fixed (rw c.requires.instr.is refl) c.requires.ready (i.imm + 1) (λ beside pc. refl) in
    rw c.index_b-b.ensures (omega (arith, long))

pub returns : goal.returns
returns g c =
    let i = c.args.i.now in
    let k = c.args.kernel.now.core in
    let m = c.args.m.now in
    let honest : Type 0 = g.D.Device.medium.honest c.args.kernel.now.device in
    load-done honest i k m Byte Fixed (rw c.requires.instr.is refl) i.imm c.load8.result _
    (λ image choice kernel beside pc. rw c.requires.instr.is refl) (rw c.index_b-b.ensures at c.load8.ensures)
    (rw (c.index_a-a.ensures, c.from.ensures) refl)
