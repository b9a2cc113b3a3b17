use Rattle.std.proofs.Common.{◌≡◌, ap, ◌∙◌, arith}
use Rattle.vm_blocks.specs.View.{VmState}
use Rattle.vm_blocks.specs.Listed.{entries_to}
use Rattle.vm_blocks.proofs.blocks.VmBlocks.listed.Goals as goal

pub returns : goal.returns
returns g c =
    let now = c.args.self.now in
    let s = c.args.blocks.now in
    let i : c.loop-i.i ≡ 1024 = omega (arith, c.loop-i-test.false, c.loop-i.auto.i-end) in
    let items : c.loop-i.entries.items ≡ entries_to now s 1024 = c.loop-i.invariant.items ∙ ap (entries_to now s) i in
    let block : c.self.inside.map_block ≡ now.map_block = ap (λ (w : VmState g.row.D.Denot). w.map_block) c.self.view_is in
    let item : c.self.inside.map_item ≡ now.map_item = ap (λ (w : VmState g.row.D.Denot). w.map_item) c.self.view_is in
    λ k. record { entries = record { items = items k }; map_block = block k; map_item = item k }
