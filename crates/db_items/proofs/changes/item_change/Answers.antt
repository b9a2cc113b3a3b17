use Rattle.std.proofs.Common.{sym, subst}
use Rattle.std.specs.Prelude.{Err, Ok}
use Rattle.geos_terms.specs.declared.name.Name.{Name}
use Rattle.geos_terms.specs.Names.{vm}
use Rattle.geos_calls.specs.ChunkCalls.{change_edit, change_row, may_grow}
use Rattle.chunk_calls.specs.Edits.{Carries}
use Rattle.chunk_calls.specs.Heaps.{HoldsHeap}
use Rattle.chunk_calls.specs.Others.{KeepsOthers}
use Rattle.chunk_calls.proofs.Rows.{carries-alone}
use Rattle.chunk_calls.proofs.Values.{values-of}
use Rattle.vm_blocks.specs.View.{vm_slot}
use Rattle.db_items.proofs.Asking.{change-inside}
use Rattle.db_items.proofs.Changing.{holds-heap, item-changed, item-not_brought, item-refused, item-unmarked}
use Rattle.db_items.proofs.OnGroups.{changes-on_chunks}
use Rattle.db_items.proofs.changes.item_change.Goals as goal

pub returns-in-Err : goal.returns-in-Err
returns-in-Err g c =
    let d = g.D.Device in
    let x = c.args.change in
    let h = c.args.group in
    item-not_brought d.medium c.args.vm.now h c.bring_group.new.vm c.args.blocks.now c.bring_group.new.blocks
    (change_row (vm h) x) (changes-on_chunks (may_grow x) (change_edit x) (vm h)) (change_edit x)
    c.in-Err.refusal c.requires c.in-Err.ensures

pub change-requires : goal.change-requires
change-requires g c =
    let d = g.D.Device in
    let t = c.bring_group.new.blocks in
    let b = c.in-Ok.ensures in
    record {
      tied = b.brings.tied;
      heap = subst (HoldsHeap t) (sym c.vm.ensures)
          (holds-heap d.medium c.bring_group.new.vm t c.args.group b.brings.tied b.ok.there);
    }

pub returns-in-Err-change_chunks : goal.returns-in-Err-change_chunks
returns-in-Err-change_chunks g c =
    let d = g.D.Device in
    let x = c.args.change in
    let h = c.args.group in
    let w = c.bring_group.new.vm in
    let t = c.bring_group.new.blocks in
    let u = c.change.new.blocks in
    let b = c.in-Ok.ensures in
    let e = c.in-Err-change_chunks in
    let carries = subst (λ (n : Name). Carries (may_grow x) w (change_edit x) t u n (Err e.refusal)) c.vm.ensures e.ensures.carries in
    let keeps = subst (KeepsOthers w t u) c.vm.ensures e.ensures.calls.keeps in
    let row = carries-alone d.medium w (change_edit x) t u (vm h) b.brings.tied (holds-heap d.medium w t h b.brings.tied b.ok.there)
    (may_grow x) (Err e.refusal) carries tt in
    item-refused d.medium c.args.vm.now h w c.args.blocks.now t (change_row (vm h) x) (changes-on_chunks (may_grow x) (change_edit x) (vm h))
    (change_edit x) b u keeps (may_grow x) e.refusal
    (change-inside x) carries e.ensures.calls.refused row

pub vdirty_changed-requires : goal.vdirty_changed-requires
vdirty_changed-requires g c =
    let d = g.D.Device in
    let x = c.args.change in
    let h = c.args.group in
    let w = c.bring_group.new.vm in
    let t = c.bring_group.new.blocks in
    let u = c.change.new.blocks in
    let b = c.in-Ok.ensures in
    item-unmarked d.medium c.args.vm.now h w c.args.blocks.now t (change_row (vm h) x) (changes-on_chunks (may_grow x) (change_edit x) (vm h))
    (change_edit x) b u
    (subst (KeepsOthers w t u) c.vm.ensures c.in-Ok-change_chunks.ensures.calls.keeps)

pub returns : goal.returns
returns g c =
    let d = g.D.Device in
    let x = c.args.change in
    let h = c.args.group in
    let w = c.bring_group.new.vm in
    let t = c.bring_group.new.blocks in
    let u = c.change.new.blocks in
    let b = c.in-Ok.ensures in
    let e = c.in-Ok-change_chunks in
    let carries = subst (λ (n : Name). Carries (may_grow x) w (change_edit x) t u n (Ok tt)) c.vm.ensures e.ensures.carries in
    let keeps = subst (KeepsOthers w t u) c.vm.ensures e.ensures.calls.keeps in
    let row = carries-alone d.medium w (change_edit x) t u (vm h) b.brings.tied (holds-heap d.medium w t h b.brings.tied b.ok.there)
    (may_grow x) (Ok tt) carries
    (values-of u (vm_slot h) c.region.result.now c.region.ensures.region c.region.ensures.bytes) in
    item-changed d.medium c.args.vm.now h w c.args.blocks.now t (change_row (vm h) x) (changes-on_chunks (may_grow x) (change_edit x) (vm h))
    (change_edit x) b u keeps (may_grow x) c.vdirty_changed.new.self tt carries
    c.vdirty_changed.ensures.tied c.vdirty_changed.ensures.marks c.vdirty_changed.ensures.memory row
