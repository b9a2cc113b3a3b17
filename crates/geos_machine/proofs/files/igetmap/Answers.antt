use Rattle.std.proofs.Common.{refl}
use Rattle.geos_calls.specs.ItemCalls as items
use Rattle.geos_semantics.specs.State.{with_word}
use Rattle.geos_machine.proofs.Works.{call-done}
use Rattle.geos_machine.proofs.files.igetmap.Goals as goal

pub returns : goal.returns
returns g c =
    let i = c.args.i.now in
    let honest : Type 0 = g.D.Device.medium.honest c.args.kernel.now.device in
    call-done honest i c.args.kernel.now.core c.args.kernel.now.core c.args.m.now _ items.igetmap
    (λ item t. with_word i.b item.1 (with_word i.a item.0 t)) (λ choice memory. tt) (λ image choice beside pc. rw c.requires.instr.is refl)
    c.igetmap-g.result c.igetmap-g.ensures (λ beside pc. rw c.requires.instr.a_is refl) refl refl
