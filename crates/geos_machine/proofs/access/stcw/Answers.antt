use Rattle.std.proofs.lemmas.Bool.{not-false, not-true}
use Rattle.std.proofs.Common.{rules, refl, ◌∙◌, get_or, sym}
use Rattle.geos_opcodes.specs.declared.uses.Width.TheVariants.{Both}
use Rattle.geos_opcodes.specs.declared.uses.Offset.TheVariants.{Tested}
use Rattle.geos_machine.proofs.Through.{store-past, store-tested, store-writable, stored-bytes}
use Rattle.geos_machine.proofs.access.stcw.Goals as goal

pub store16-requires-clause-stands : goal.store16-requires-clause-stands
store16-requires-clause-stands g c =
    let i = c.args.i.now in
    let k = c.args.kernel.now.core in
    let m = c.args.m.now in
    let honest : Type 0 = g.D.Device.medium.honest c.args.kernel.now.device in
    rw c.index_b-b.ensures (store-writable honest i k k m Both Tested (rw c.requires.instr.is refl) c.requires.ready)

pub returns-then-not-reaches-clause-works : goal.returns-then-not-reaches-clause-works
returns-then-not-reaches-clause-works g c =
    let i = c.args.i.now in
    let k = c.args.kernel.now.core in
    let m = c.args.m.now in
    let honest : Type 0 = g.D.Device.medium.honest c.args.kernel.now.device in
    let reached = not-false _ (sym c.reaches.ensures ∙ c.if-not-reaches.true) in
    rw c.refuse.ensures.goes (store-past honest i k k m Both Tested (rw c.requires.instr.is refl)
    (get_or c.args.m.now.words i.c 0) _ (rw (c.index_b-b.ensures, c.index_c-c.ensures) at reached)
    (λ image choice kernel beside pc. rw c.requires.instr.is refl) c.refuse.ensures.registers)

pub returns-clause-works : goal.returns-clause-works
returns-clause-works g c =
    let i = c.args.i.now in
    let k = c.args.kernel.now.core in
    let m = c.args.m.now in
    let honest : Type 0 = g.D.Device.medium.honest c.args.kernel.now.device in
    let reached = not-true _ (sym c.reaches.ensures ∙ c.if-not-reaches.false) in
    store-tested honest i k c.store16.new.self.core m Both Tested (rw c.requires.instr.is refl) (get_or c.args.m.now.words i.c 0) _
    (stored-bytes _ (search rules) ∙ rw c.index_a-a.ensures refl) (rw (c.index_b-b.ensures, c.index_c-c.ensures) at reached)
    (λ image choice kernel beside pc. rw c.requires.instr.is refl) (rw (c.index_b-b.ensures, c.index_c-c.ensures) at c.store16.ensures.row)
