use Rattle.std.proofs.Common.{◌<◌, Ok, sym, subst, arith}
use Rattle.geos_calls.specs.ItemCalls.{isetmap}
use Rattle.vm_blocks.specs.DoesRow.{DoesRow}
use Rattle.vm_blocks.specs.View.{VmState}
use Rattle.vm_blocks.proofs.MapRows.{put-map-item-row}
use Rattle.vm_blocks.proofs.blocks.VmBlocks.put_map_item.Goals as goal

pub returns-clause-row : goal.returns-clause-row
returns-clause-row g c = λ s tied.
    let d = g.D.Device in
    let now = c.args.self.now in
    let group = c.args.group in
    let item = c.args.item in
    let word : item < 65536 = omega arith in
    subst (λ (w : VmState g.row.D.Denot). DoesRow d.medium (isetmap group item) (Ok tt) now s (record w { map_item = (group, item) }) s)
    (sym c.self.view_is)
    (put-map-item-row d.medium now s tied group item word c.requires.group c.requires.no_item)
