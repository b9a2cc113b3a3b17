use Rattle.std.proofs.Common.{Ok, sym, subst}
use Rattle.geos_calls.specs.VmCalls.{vgetmap}
use Rattle.vm_blocks.specs.DoesRow.{DoesRow}
use Rattle.vm_blocks.specs.View.{VmState}
use Rattle.vm_blocks.proofs.Told.{map-row}
use Rattle.vm_blocks.proofs.blocks.VmBlocks.map.Goals as goal

pub returns-clause-row : goal.returns-clause-row
returns-clause-row g c = λ s tied.
    let d = g.D.Device in
    let now = c.args.self.now in
    subst (λ (w : VmState g.row.D.Denot). DoesRow d.medium vgetmap (Ok w.map_block) now s now s) (sym c.self.view_is) (map-row d.medium now s tied)
