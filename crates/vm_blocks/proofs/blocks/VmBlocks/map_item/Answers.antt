use Rattle.std.proofs.Common.{Ok, sym, subst}
use Rattle.geos_calls.specs.ItemCalls.{igetmap}
use Rattle.vm_blocks.specs.DoesRow.{DoesRow}
use Rattle.vm_blocks.specs.View.{VmState}
use Rattle.vm_blocks.proofs.Told.{map-item-row}
use Rattle.vm_blocks.proofs.blocks.VmBlocks.map_item.Goals as goal

pub returns-clause-row : goal.returns-clause-row
returns-clause-row g c = λ s tied.
    let d = g.D.Device in
    let now = c.args.self.now in
    subst (λ (w : VmState g.row.D.Denot). DoesRow d.medium igetmap (Ok w.map_item) now s now s) (sym c.self.view_is)
    (map-item-row d.medium now s tied)
