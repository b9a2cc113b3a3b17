use Rattle.std.proofs.Common.{true, sym, subst}
use Rattle.std.specs.Prelude.{Err, Ok}
use Rattle.geos_terms.specs.declared.name.Name.{Name}
use Rattle.geos_terms.specs.Names.{vm}
use Rattle.geos_calls.specs.ChunkCalls.{make_edit, make_row}
use Rattle.chunk_calls.specs.Edits.{DiscardsAndEdits}
use Rattle.chunk_calls.specs.Heaps.{HoldsHeap}
use Rattle.chunk_calls.specs.Others.{KeepsOthers}
use Rattle.chunk_calls.proofs.Rows.{comes-alone}
use Rattle.chunk_calls.proofs.Values.{values-of}
use Rattle.vm_blocks.specs.View.{vm_slot}
use Rattle.db_items.proofs.Asking.{make-inside}
use Rattle.db_items.proofs.Changing.{holds-heap, item-changed, item-not_brought, item-refused, item-unmarked}
use Rattle.db_items.proofs.OnGroups.{enlarges-on_chunks}
use Rattle.db_items.proofs.changes.item_make.Goals as goal

pub returns-in-Err : goal.returns-in-Err
returns-in-Err g c =
    let d = g.D.Device in
    let x = c.args.make in
    let h = c.args.group in
    item-not_brought d.medium c.args.vm.now h c.bring_group.new.vm c.args.blocks.now c.bring_group.new.blocks
    (make_row (vm h) x) (enlarges-on_chunks (make_edit x) (vm h)) (make_edit x)
    c.in-Err.refusal c.requires c.in-Err.ensures

pub make_chunk-requires : goal.make_chunk-requires
make_chunk-requires g c =
    let d = g.D.Device in
    let t = c.bring_group.new.blocks in
    let b = c.in-Ok.ensures in
    record {
      tied = b.brings.tied;
      heap = subst (HoldsHeap t) (sym c.vm.ensures)
          (holds-heap d.medium c.bring_group.new.vm t c.args.group b.brings.tied b.ok.there);
    }

pub returns-in-Err-make_chunk : goal.returns-in-Err-make_chunk
returns-in-Err-make_chunk g c =
    let d = g.D.Device in
    let x = c.args.make in
    let h = c.args.group in
    let w = c.bring_group.new.vm in
    let t = c.bring_group.new.blocks in
    let u = c.make_chunk.new.blocks in
    let b = c.in-Ok.ensures in
    let e = c.in-Err-make_chunk in
    let comes = subst (λ (n : Name). DiscardsAndEdits w (make_edit x) t u n (Err e.refusal)) c.vm.ensures e.ensures.comes in
    let keeps = subst (KeepsOthers w t u) c.vm.ensures e.ensures.calls.keeps in
    let row = comes-alone d.medium w (make_edit x) t u (vm h) b.brings.tied (holds-heap d.medium w t h b.brings.tied b.ok.there)
    (Err e.refusal) comes tt in
    item-refused d.medium c.args.vm.now h w c.args.blocks.now t (make_row (vm h) x) (enlarges-on_chunks (make_edit x) (vm h))
    (make_edit x) b u keeps true e.refusal
    (make-inside x) comes e.ensures.calls.refused row

pub vdirty_changed-requires : goal.vdirty_changed-requires
vdirty_changed-requires g c =
    let d = g.D.Device in
    let x = c.args.make in
    let h = c.args.group in
    let w = c.bring_group.new.vm in
    let t = c.bring_group.new.blocks in
    let u = c.make_chunk.new.blocks in
    let b = c.in-Ok.ensures in
    item-unmarked d.medium c.args.vm.now h w c.args.blocks.now t (make_row (vm h) x) (enlarges-on_chunks (make_edit x) (vm h)) (make_edit x) b u
    (subst (KeepsOthers w t u) c.vm.ensures c.in-Ok-make_chunk.ensures.calls.keeps)

pub returns : goal.returns
returns g c =
    let d = g.D.Device in
    let x = c.args.make in
    let h = c.args.group in
    let w = c.bring_group.new.vm in
    let t = c.bring_group.new.blocks in
    let u = c.make_chunk.new.blocks in
    let b = c.in-Ok.ensures in
    let e = c.in-Ok-make_chunk in
    let comes = subst (λ (n : Name). DiscardsAndEdits w (make_edit x) t u n (Ok e.item)) c.vm.ensures e.ensures.comes in
    let keeps = subst (KeepsOthers w t u) c.vm.ensures e.ensures.calls.keeps in
    let row = comes-alone d.medium w (make_edit x) t u (vm h) b.brings.tied (holds-heap d.medium w t h b.brings.tied b.ok.there) (Ok e.item) comes
    (values-of u (vm_slot h) c.region.result.now c.region.ensures.region c.region.ensures.bytes) in
    item-changed d.medium c.args.vm.now h w c.args.blocks.now t (make_row (vm h) x) (enlarges-on_chunks (make_edit x) (vm h))
    (make_edit x) b u keeps true c.vdirty_changed.new.self e.item comes
    c.vdirty_changed.ensures.tied c.vdirty_changed.ensures.marks c.vdirty_changed.ensures.memory row
