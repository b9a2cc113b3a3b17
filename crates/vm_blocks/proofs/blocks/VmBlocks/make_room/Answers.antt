use Rattle.std.proofs.Common.{◌≡◌, ◌∙◌, ◌+◌, ◌<◌, refl, sym, subst, arith}
use Rattle.block_handles.specs.Names.{slot_of}
use Rattle.block_handles.specs.Store.{IsBlock, IsThere, block_at, size_of}
use Rattle.block_handles.specs.Stretch.{HasNoRoom}
use Rattle.block_handles.proofs.Layouts.{size_of_none}
use Rattle.vm_blocks.specs.Room.{DiscardsForRoom, DiscardsOne, Thins, own_handle, there_count}
use Rattle.vm_blocks.proofs.Slots.{no-block}
use Rattle.vm_blocks.proofs.Thinning.{thins-own, thins-more, tied-thins}
use Rattle.vm_blocks.proofs.Wanting.{discards-more, lacks-room, refused-for-room}
use Rattle.vm_blocks.proofs.blocks.VmBlocks.make_room.Goals as goal

pub loop-blocks-init : goal.loop-blocks-init
loop-blocks-init g c =
    let v = c.args.self.now in
    let old = c.args.blocks.now in
    let now = c.discard_for.new.blocks in
    let but = own_handle c.args.name in
    let slot = slot_of c.args.name in
    let e = c.discard_for.ensures in
    let whole : size_of old slot + c.args.size ≡ c.args.size = omega (arith, size_of_none old slot c.requires.absent) in
    record {
      tied = tied-thins g.D.Device.medium v old now but c.requires.tied e.thins;
      thins = e.thins;
      wanted = subst (DiscardsForRoom v old now but slot) whole e.wanted;
      absent = (λ (there : IsThere now slot). c.requires.absent (subst IsBlock (thins-own v old now c.args.name c.requires.handle e.thins) there));
    }

pub loop-blocks-preserved : goal.loop-blocks-preserved
loop-blocks-preserved g c =
    let v = c.args.self.now in
    let old = c.args.blocks.now in
    let now = c.loop-blocks.blocks in
    let new = c.discard_one.new.blocks in
    let i = c.loop-blocks.invariant in
    let but = own_handle c.args.name in
    let slot = slot_of c.args.name in
    let size = c.args.size in
    let e = c.in-Err.ensures in
    let same : c.make.new.self ≡ now = e.err in
    let one : DiscardsOne v now new but = subst (λ s. DiscardsOne v s new but) same
    (subst (DiscardsOne v c.make.new.self new) c.own_handle-but.ensures (c.if-not-discard_one.ensures.one refl)) in
    let thins : Thins v now new but = subst (λ s. Thins v s new but) same
    (subst (Thins v c.make.new.self new) c.own_handle-but.ensures (c.if-not-discard_one.ensures.thins refl)) in
    let no_room : HasNoRoom now slot size = subst (λ s. HasNoRoom s slot size) same
    (refused-for-room size c.in-Err.field-0 c.make.result (HasNoRoom c.make.new.self slot size) c.in-Err.is
    c.requires.size.1 c.make.ensures.no_room c.make.ensures.too_big) in
    record {
      tied = tied-thins g.D.Device.medium v now new but i.tied thins;
      thins = thins-more v old now new but i.thins thins;
      wanted = discards-more v old now new but slot size i.thins i.wanted no_room one;
      absent = (λ (there : IsThere new slot). i.absent (subst IsBlock (thins-own v now new c.args.name c.requires.handle thins) there));
    }

pub loop-blocks-smaller : goal.loop-blocks-smaller
loop-blocks-smaller g c = subst (λ s. there_count c.discard_one.new.blocks < there_count s) c.in-Err.ensures.err
    (c.if-not-discard_one.ensures.fewer refl)

pub returns-in-Ok : goal.returns-in-Ok
returns-in-Ok g c =
    let now = c.loop-blocks.blocks in
    let i = c.loop-blocks.invariant in
    record {
      ok = record {
        mid = now;
        thins = i.thins;
        wanted = i.wanted;
        absent = no-block (block_at now (slot_of c.args.name)) i.absent;
        makes = c.in-Ok.ensures.ok;
      };
      err = tt;
      wanted = tt;
    }

pub returns-then-not-discard_one : goal.returns-then-not-discard_one
returns-then-not-discard_one g c =
    let v = c.args.self.now in
    let old = c.args.blocks.now in
    let now = c.loop-blocks.blocks in
    let new = c.discard_one.new.blocks in
    let i = c.loop-blocks.invariant in
    let name = c.args.name in
    let slot = slot_of name in
    let size = c.args.size in
    let same : c.make.new.self ≡ now = c.in-Err.ensures.err in
    let none = c.if-not-discard_one.ensures.none refl in
    let no_room : HasNoRoom now slot size = subst (λ s. HasNoRoom s slot size) same
    (refused-for-room size c.in-Err.field-0 c.make.result (HasNoRoom c.make.new.self slot size) c.in-Err.is
    c.requires.size.1 c.make.ensures.no_room c.make.ensures.too_big) in
    record {
      ok = tt;
      err = lacks-room v old now c.make.new.self new name size c.own_handle-but.result c.own_handle-but.ensures same i.thins no_room none;
      wanted = subst (λ s. DiscardsForRoom v old s (own_handle name) slot size) (sym (none.0 ∙ same)) i.wanted;
    }

pub make-requires : goal.make-requires
make-requires g c = let q = c.requires in record { name = (q.handle, c.loop-blocks.invariant.absent); size = (q.size.0, q.size.2) }
