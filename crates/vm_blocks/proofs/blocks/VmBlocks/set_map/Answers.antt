use Rattle.std.proofs.Common.{Ok, sym, subst}
use Rattle.geos_calls.specs.VmCalls.{vsetmap}
use Rattle.vm_blocks.specs.DoesRow.{DoesRow}
use Rattle.vm_blocks.specs.View.{VmState}
use Rattle.vm_blocks.proofs.MapRows.{set-map-row}
use Rattle.vm_blocks.proofs.blocks.VmBlocks.set_map.Goals as goal

pub returns-clause-row : goal.returns-clause-row
returns-clause-row g c = λ s tied.
    let d = g.D.Device in
    let now = c.args.self.now in
    let h = c.args.handle in
    subst (λ (w : VmState g.row.D.Denot). DoesRow d.medium (vsetmap h) (Ok tt) now s (record w { map_block = h }) s)
    (sym c.self.view_is) (set-map-row d.medium now s tied h c.requires)
