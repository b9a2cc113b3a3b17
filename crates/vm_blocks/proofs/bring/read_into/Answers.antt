use Rattle.std.proofs.Common.{◌≡◌, length, ap, refl, sym, subst, ◌∙◌}
use Rattle.block_handles.specs.Change.{with_bytes}
use Rattle.block_handles.specs.Names.{slot_of}
use Rattle.block_handles.specs.Store.{Store, bytes_of, place_of, size_of}
use Rattle.geos_calls.specs.Legal.{AreBytes}
use Rattle.geos_calls.proofs.LegalBytes.{bytes-part}
use Rattle.block_handles.proofs.Laws.{bytes-same}
use Rattle.vm_blocks.specs.View.{vm_slot}
use Rattle.vm_blocks.proofs.Brings.{read-failed}
use Rattle.vm_blocks.proofs.bring.read_into.Goals as goal

pub returns-in-Ok-clause-bytes : goal.returns-in-Ok-clause-bytes
returns-in-Ok-clause-bytes g c = λ good.
    let old = c.args.blocks.now in
    let ws = c.block.new.into in
    let i : slot_of c.vm.result ≡ vm_slot c.args.h = ap slot_of c.vm.ensures in
    let long : length ws ≡ size_of old (vm_slot c.args.h) = c.block.auto.into ∙ ap length c.bytes_mut.ensures.value ∙ ap (size_of old) i in
    ap (λ j. bytes_of (with_bytes old j ws) (vm_slot c.args.h)) i ∙ bytes-same old (vm_slot c.args.h) ws c.requires.there long
    ∙ c.in-Ok.ensures.bytes good

pub returns-in-Err-clause-err : goal.returns-in-Err-clause-err
returns-in-Err-clause-err g c =
    let old = c.args.blocks.now in
    let ws = c.block.new.into in
    let e = c.free.ensures in
    let long : length ws ≡ size_of old (slot_of c.vm.result) = c.block.auto.into ∙ ap length c.bytes_mut.ensures.value in
    read-failed old c.free.new.self c.args.h c.vm.result c.vm-in-Err.result ws c.free.result c.vm.ensures
    c.vm-in-Err.ensures c.requires.there c.requires.free long e.ok e.bad_handle e.locked

pub returns-in-Ok-clause-values : goal.returns-in-Ok-clause-values
returns-in-Ok-clause-values g c =
    let old = c.args.blocks.now in
    let slot = vm_slot c.args.h in
    let new : Store = with_bytes old (slot_of c.vm.result) c.block.new.into in
    let r = c.region.ensures in
    subst AreBytes (sym (r.region.blocks slot)) (bytes-part c.region.result.now (place_of new slot) (size_of new slot) r.bytes)

pub returns-in-Ok-clause-device : goal.returns-in-Ok-clause-device
returns-in-Ok-clause-device g c = let e = c.in-Ok.ensures in
    record { pair = e.pair; reads = e.reads; cause = λ good is. absurd cc; counted = λ never. e.ok; steadily = e.steadily }

pub returns-in-Err-clause-device : goal.returns-in-Err-clause-device
returns-in-Err-clause-device g c = let e = c.in-Err.ensures in
    record { pair = e.pair; reads = e.reads; cause = λ good is. e.cause good; counted = λ never. absurd (never refl); steadily = e.steadily }
