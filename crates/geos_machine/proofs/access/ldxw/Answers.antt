use Rattle.std.proofs.Common.{◌+◌, refl, get_or}
use Rattle.geos_opcodes.specs.declared.uses.Width.TheVariants.{Both}
use Rattle.geos_opcodes.specs.declared.uses.Offset.TheVariants.{Indexed}
use Rattle.geos_machine.proofs.Through.{load-done, load-reaches, load-stands}
use Rattle.geos_machine.proofs.access.ldxw.Goals as goal

pub load16-requires-clause-stands : goal.load16-requires-clause-stands
load16-requires-clause-stands g c =
    let i = c.args.i.now in
    let k = c.args.kernel.now.core in
    let m = c.args.m.now in
    let honest : Type 0 = g.D.Device.medium.honest c.args.kernel.now.device in
    rw c.index_b-b.ensures (load-stands honest i k m Both Indexed (rw c.requires.instr.is refl) c.requires.ready)

pub load16-requires-clause-within : goal.load16-requires-clause-within
load16-requires-clause-within g c =
    let i = c.args.i.now in
    let k = c.args.kernel.now.core in
    let m = c.args.m.now in
    let honest : Type 0 = g.D.Device.medium.honest c.args.kernel.now.device in
    rw (c.index_b-b.ensures, c.index_c-c.ensures) (load-reaches honest i k m Both Indexed (rw c.requires.instr.is refl)
    c.requires.ready ((get_or c.args.m.now.words i.c 0) + 2) (λ beside pc. refl))

pub returns : goal.returns
returns g c =
    let i = c.args.i.now in
    let k = c.args.kernel.now.core in
    let m = c.args.m.now in
    let honest : Type 0 = g.D.Device.medium.honest c.args.kernel.now.device in
    load-done honest i k m Both Indexed (rw c.requires.instr.is refl) (get_or c.args.m.now.words i.c 0) c.load16.result _
    (λ image choice kernel beside pc. rw c.requires.instr.is refl) (rw (c.index_b-b.ensures, c.index_c-c.ensures) at c.load16.ensures)
    (rw c.index_a-a.ensures refl)
