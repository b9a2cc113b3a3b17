use Rattle.std.proofs.Common.{◌+◌, ℕ, length, ap, sym, subst, rules}
use Rattle.block_handles.specs.Names.{slot_of}
use Rattle.block_handles.specs.Store.{bytes_in, size_of}
use Rattle.block_handles.specs.Stretch.{HasNoRoom}
use Rattle.vm_blocks.specs.Room.{DiscardsOne, Thins, own_handle}
use Rattle.vm_blocks.proofs.Thinning.{thins-more, thins-own, tied-thins}
use Rattle.vm_blocks.proofs.Wanting.{discards-more}
use Rattle.vm_blocks.proofs.blocks.VmBlocks.discard_for.Goals as goal

pub loop-blocks-preserved : goal.loop-blocks-preserved
loop-blocks-preserved g c =
    let v = c.args.self.now in
    let old = c.args.blocks.now in
    let now = c.loop-blocks.blocks in
    let new = c.discard_one.new.blocks in
    let i = c.loop-blocks.invariant in
    let but = own_handle c.args.name in
    let slot = slot_of c.args.name in
    let size : ℕ = size_of old slot + c.args.more in
    let own = thins-own v old now c.args.name c.requires.handle i.thins in
    let no_room : HasNoRoom now slot size = c.lacks.ensures.no_room (search rules) slot size
    (ap (λ o. length (bytes_in o) + c.args.more) (sym own)) in
    let one : DiscardsOne v now new but = subst (DiscardsOne v now new) c.own_handle-but.ensures (c.discard_one.ensures.one (search rules)) in
    let thins : Thins v now new but = subst (Thins v now new) c.own_handle-but.ensures (c.discard_one.ensures.thins (search rules)) in
    record {
      tied = tied-thins g.D.Device.medium v now new but i.tied thins;
      thins = thins-more v old now new but i.thins thins;
      wanted = discards-more v old now new but slot size i.thins i.wanted no_room one;
    }
