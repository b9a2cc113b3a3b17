use Rattle.std.proofs.lemmas.Bool.{not-false, not-true}
use Rattle.std.proofs.Common.{refl, get_or, sym, ◌∙◌}
use Rattle.geos_opcodes.specs.declared.uses.Width.TheVariants.{Byte}
use Rattle.geos_opcodes.specs.declared.uses.Offset.TheVariants.{Tested}
use Rattle.geos_machine.proofs.Through.{load-past, load-stands, load-tested}
use Rattle.geos_machine.proofs.access.ldcb.Goals as goal

pub load8-requires-clause-stands : goal.load8-requires-clause-stands
load8-requires-clause-stands g c =
    let i = c.args.i.now in
    let k = c.args.kernel.now.core in
    let m = c.args.m.now in
    let honest : Type 0 = g.D.Device.medium.honest c.args.kernel.now.device in
    rw c.index_b-b.ensures (load-stands honest i k m Byte Tested (rw c.requires.instr.is refl) c.requires.ready)

pub returns-then-not-reaches : goal.returns-then-not-reaches
returns-then-not-reaches g c =
    let i = c.args.i.now in
    let k = c.args.kernel.now.core in
    let m = c.args.m.now in
    let honest : Type 0 = g.D.Device.medium.honest c.args.kernel.now.device in
    let reached = not-false _ (sym c.reaches.ensures ∙ c.if-not-reaches.true) in
    rw c.refuse.ensures.goes (load-past honest i k m Byte Tested (rw c.requires.instr.is refl) (get_or c.args.m.now.words i.c 0) _
    (rw (c.index_b-b.ensures, c.index_c-c.ensures) at reached) (λ image choice kernel beside pc. rw c.requires.instr.is refl)
    c.refuse.ensures.registers)

pub returns : goal.returns
returns g c =
    let i = c.args.i.now in
    let k = c.args.kernel.now.core in
    let m = c.args.m.now in
    let honest : Type 0 = g.D.Device.medium.honest c.args.kernel.now.device in
    let reached = not-true _ (sym c.reaches.ensures ∙ c.if-not-reaches.false) in
    load-tested honest i k m Byte Tested (rw c.requires.instr.is refl) (get_or c.args.m.now.words i.c 0) c.load8.result _
    (rw (c.index_b-b.ensures, c.index_c-c.ensures) at reached) (λ image choice kernel beside pc. rw c.requires.instr.is refl)
    (rw (c.index_b-b.ensures, c.index_c-c.ensures) at c.load8.ensures) (rw (c.index_a-a.ensures, c.from.ensures) refl)
