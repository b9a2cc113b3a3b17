use Rattle.std.proofs.Common.{◌≡◌, ◌∙◌, ◌≤◌, ◌<◌, ◌+◌, ◌-◌, ◌%◌, length, refl, sym, subst, arith}
use Rattle.block_handles.specs.Names.{slot_of}
use Rattle.block_handles.specs.Store.{IsBlock, bytes_in, size_of}
use Rattle.block_handles.specs.Stretch.{HasNoRoom}
use Rattle.block_handles.proofs.Laws.{handle_of_there}
use Rattle.vm_blocks.specs.Room.{DiscardsForRoom, DiscardsOne, Thins, own_handle, there_count}
use Rattle.vm_blocks.proofs.Thinning.{thins-own, thins-more, tied-thins}
use Rattle.vm_blocks.proofs.Wanting.{discards-more, lacks-room, refused-for-room}
use Rattle.vm_blocks.proofs.blocks.VmBlocks.grow_room.Goals as goal

pub grow-requires-clause-there : goal.grow-requires-clause-there
grow-requires-clause-there g c =
    let old = c.args.blocks.now in
    let now = c.loop-blocks.blocks in
    let name = c.args.name in
    let q = c.requires in
    let own = thins-own c.args.self.now old now name (handle_of_there old old name refl q.tied.laid q.there) c.loop-blocks.invariant.thins in
    subst IsBlock (sym own) q.there

pub grow-requires-clause-size : goal.grow-requires-clause-size
grow-requires-clause-size g c =
    let old = c.args.blocks.now in
    let now = c.loop-blocks.blocks in
    let name = c.args.name in
    let q = c.requires in
    let own = thins-own c.args.self.now old now name (handle_of_there old old name refl q.tied.laid q.there) c.loop-blocks.invariant.thins in
    subst (λ o. (length (bytes_in o) ≤ c.args.size) × (c.args.size % 16 ≡ 0)) (sym own) (q.size.0, q.size.2)

pub loop-blocks-init : goal.loop-blocks-init
loop-blocks-init g c =
    let v = c.args.self.now in
    let old = c.args.blocks.now in
    let now = c.discard_for.new.blocks in
    let but = own_handle c.args.name in
    let slot = slot_of c.args.name in
    let e = c.discard_for.ensures in
    let whole : size_of old slot + (c.args.size - c.size.result) ≡ c.args.size = omega (arith, c.size.ensures.size, c.requires.size.0) in
    record {
      tied = tied-thins g.D.Device.medium v old now but c.requires.tied e.thins;
      thins = e.thins;
      wanted = subst (DiscardsForRoom v old now but slot) whole e.wanted;
    }

pub loop-blocks-preserved : goal.loop-blocks-preserved
loop-blocks-preserved g c =
    let v = c.args.self.now in
    let old = c.args.blocks.now in
    let now = c.loop-blocks.blocks in
    let new = c.discard_one.new.blocks in
    let i = c.loop-blocks.invariant in
    let but = own_handle c.args.name in
    let slot = slot_of c.args.name in
    let size = c.args.size in
    let e = c.in-Err.ensures in
    let same : c.grow.new.self ≡ now = e.err in
    let one : DiscardsOne v now new but = subst (λ s. DiscardsOne v s new but) same
    (subst (DiscardsOne v c.grow.new.self new) c.own_handle-but.ensures (c.if-not-discard_one.ensures.one refl)) in
    let thins : Thins v now new but = subst (λ s. Thins v s new but) same
    (subst (Thins v c.grow.new.self new) c.own_handle-but.ensures (c.if-not-discard_one.ensures.thins refl)) in
    let no_room : HasNoRoom now slot size = subst (λ s. HasNoRoom s slot size) same
    (refused-for-room size c.in-Err.field-0 c.grow.result (HasNoRoom c.grow.new.self slot size) c.in-Err.is
    c.requires.size.1 c.grow.ensures.no_room c.grow.ensures.too_big) in
    record {
      tied = tied-thins g.D.Device.medium v now new but i.tied thins;
      thins = thins-more v old now new but i.thins thins;
      wanted = discards-more v old now new but slot size i.thins i.wanted no_room one;
    }

pub loop-blocks-smaller : goal.loop-blocks-smaller
loop-blocks-smaller g c = subst (λ s. there_count c.discard_one.new.blocks < there_count s) c.in-Err.ensures.err
    (c.if-not-discard_one.ensures.fewer refl)

pub returns-in-Ok : goal.returns-in-Ok
returns-in-Ok g c =
    let now = c.loop-blocks.blocks in
    let i = c.loop-blocks.invariant in
    record {
      ok = record {
        mid = now;
        thins = i.thins;
        wanted = i.wanted;
        own = thins-own c.args.self.now c.args.blocks.now now c.args.name
            (handle_of_there c.args.blocks.now c.args.blocks.now c.args.name refl c.requires.tied.laid c.requires.there) i.thins;
        grows = c.in-Ok.ensures.ok;
      };
      err = tt;
      wanted = tt;
    }

pub returns-then-not-discard_one : goal.returns-then-not-discard_one
returns-then-not-discard_one g c =
    let v = c.args.self.now in
    let old = c.args.blocks.now in
    let now = c.loop-blocks.blocks in
    let new = c.discard_one.new.blocks in
    let i = c.loop-blocks.invariant in
    let name = c.args.name in
    let slot = slot_of name in
    let size = c.args.size in
    let same : c.grow.new.self ≡ now = c.in-Err.ensures.err in
    let none = c.if-not-discard_one.ensures.none refl in
    let no_room : HasNoRoom now slot size = subst (λ s. HasNoRoom s slot size) same
    (refused-for-room size c.in-Err.field-0 c.grow.result (HasNoRoom c.grow.new.self slot size) c.in-Err.is
    c.requires.size.1 c.grow.ensures.no_room c.grow.ensures.too_big) in
    record {
      ok = tt;
      err = lacks-room v old now c.grow.new.self new name size c.own_handle-but.result c.own_handle-but.ensures same i.thins no_room none;
      wanted = subst (λ s. DiscardsForRoom v old s (own_handle name) slot size) (sym (none.0 ∙ same)) i.wanted;
    }
