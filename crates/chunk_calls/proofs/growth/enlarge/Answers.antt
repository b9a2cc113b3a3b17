use Rattle.std.proofs.Common.{refl, subst, sym, arith, ap, length, ◌≡◌, ◌≤◌, ◌<◌, ◌%◌, ◌∙◌}
use Rattle.block_handles.specs.Calls.{Grows}
use Rattle.block_handles.specs.Names.{slot_of}
use Rattle.block_handles.specs.Store.{IsBlock, bytes_in, size_of}
use Rattle.geos_terms.specs.Heap.{IsBlockSize, IsHeap, most_block_bytes}
use Rattle.block_handles.proofs.Laws.{handle_of_there}
use Rattle.vm_blocks.specs.Room.{DiscardsForRoom, LacksRoom, own_handle}
use Rattle.vm_blocks.proofs.Thinning.{thins-own}
use Rattle.chunk_calls.proofs.Regrown.{grown-front, grown-heap, grown-size, grown-there}
use Rattle.chunk_calls.proofs.growth.enlarge.Given.{Over}
use Rattle.chunk_calls.proofs.growth.enlarge.Goals.{After-bytes_mut}
use Rattle.chunk_calls.proofs.growth.enlarge.Goals as goal

pub enlarged-requires-clause-heap : goal.enlarged-requires-clause-heap
enlarged-requires-clause-heap g c =
    let r = c.in-Ok.ensures.ok in
    let slot = slot_of c.args.name in
    let q = c.requires.holds.heap in
    let there = subst IsBlock (sym r.own) q.there in
    let grows = subst (Grows r.mid c.grow_room.new.blocks slot) c.from.ensures r.grows in
    let same = c.size-old_size.ensures.size ∙ sym (ap (λ o. length (bytes_in o)) r.own) in
    let first = grown-front r.mid c.grow_room.new.blocks slot c.args.size there grows c.bytes_mut.result.now
    c.size-old_size.result same c.bytes_mut.ensures.value in
    subst IsHeap (sym first) (subst (λ o. IsHeap (bytes_in o)) (sym r.own) q.heap)

pub returns : goal.returns
returns g c =
    let r = c.in-Ok.ensures.ok in
    let slot = slot_of c.args.name in
    let q = c.requires.holds.heap in
    let there = subst IsBlock (sym r.own) q.there in
    let grows = subst (Grows r.mid c.grow_room.new.blocks slot) c.from.ensures r.grows in
    let same = c.size-old_size.ensures.size ∙ sym (ap (λ o. length (bytes_in o)) r.own) in
    let larger : size_of r.mid slot < c.args.size = subst (λ o. length (bytes_in o) < c.args.size) (sym r.own) c.requires.larger in
    let some : 2 ≤ c.size-old_size.result = omega (arith, c.size-old_size.ensures.legal.0) in
    record {
      mid = r.mid;
      thins = r.thins;
      wanted = subst (DiscardsForRoom c.args.vm.now c.args.blocks.now r.mid (own_handle c.args.name) slot) c.from.ensures r.wanted;
      own = r.own;
      ok = grown-heap r.mid c.grow_room.new.blocks slot c.args.size there grows c.bytes_mut.result.now c.enlarged.new.block
          c.size-old_size.result larger
          same c.bytes_mut.ensures.value c.enlarged.auto.block c.enlarged.ensures.heap some c.enlarged.ensures.handle c.enlarged.ensures.chunks;
      no_room = tt;
    }

pub returns-in-Err : goal.returns-in-Err
returns-in-Err g c =
    let v = c.args.vm.now in
    let old = c.args.blocks.now in
    let new = c.grow_room.new.blocks in
    let name = c.args.name in
    let e = c.in-Err.ensures in
    let lacks = subst (LacksRoom v old new name) c.from.ensures e.err in
    record {
      mid = new;
      thins = lacks.thins;
      wanted = subst (DiscardsForRoom v old new (own_handle name) (slot_of name)) c.from.ensures e.wanted;
      own = thins-own v old new name (handle_of_there old old name refl c.requires.holds.tied.laid c.requires.holds.heap.there) lacks.thins;
      ok = tt;
      no_room = ((refl, lacks.no_room, refl), lacks.none);
    }

pub grow_room-requires : goal.grow_room-requires
grow_room-requires g c =
    let q = c.requires in
    let old_size = size_of c.args.blocks.now (slot_of c.args.name) in
    let size : (old_size ≤ c.args.size) × (c.args.size ≤ most_block_bytes) × (c.args.size % 16 ≡ 0) =
    (omega (arith, q.larger), q.legal.0, q.legal.1) in
    record {
      tied = q.holds.tied;
      there = q.holds.heap.there;
      size = subst (λ n. (old_size ≤ n) × (n ≤ most_block_bytes)
          × (n % 16 ≡ 0)) (sym c.from.ensures) size;
    }

pub bytes_mut-requires : goal.bytes_mut-requires
bytes_mut-requires g c =
    let r = c.in-Ok.ensures.ok in
    let slot = slot_of c.args.name in
    grown-there r.mid c.grow_room.new.blocks slot c.args.size (subst IsBlock (sym r.own) c.requires.holds.heap.there)
    (subst (Grows r.mid c.grow_room.new.blocks slot) c.from.ensures r.grows)

-- the block has the requested size
wide : (g : Over) (c : After-bytes_mut g) → length c.bytes_mut.result.now ≡ c.args.size
wide g c =
    let r = c.in-Ok.ensures.ok in
    let slot = slot_of c.args.name in
    let q = c.requires in
    let less : size_of r.mid slot < c.args.size = subst (λ o. length (bytes_in o) < c.args.size) (sym r.own) q.larger in
    ap length c.bytes_mut.ensures.value
    ∙ grown-size r.mid c.grow_room.new.blocks slot c.args.size (subst IsBlock (sym r.own) q.holds.heap.there)
    (subst (Grows r.mid c.grow_room.new.blocks slot) c.from.ensures r.grows) less

pub enlarged-requires-clause-within : goal.enlarged-requires-clause-within
enlarged-requires-clause-within g c = omega (arith, c.size-old_size.ensures.size, c.requires.larger, wide g c)

pub enlarged-requires-clause-size : goal.enlarged-requires-clause-size
enlarged-requires-clause-size g c =
    let q = c.requires in
    let size : IsBlockSize c.args.size = (
      omega (arith, c.size-old_size.ensures.legal.0, c.size-old_size.ensures.size, q.larger),
      q.legal.0,
      q.legal.1,
    ) in
    subst IsBlockSize (sym (wide g c)) size
