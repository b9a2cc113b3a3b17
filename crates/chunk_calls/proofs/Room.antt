-- Changes of a heap for which room was made first.
use Rattle.std.proofs.Common.{◌≡◌, ℕ, ◌<◌, ◌≤◌, List, Option, ◌∙◌, arith, subst}
use Rattle.std.specs.Prelude.{max}
use Rattle.geos_terms.specs.declared.name.Name.{Name}
use Rattle.geos_terms.specs.Chunks.{need}
use Rattle.block_handles.specs.Names.{slot_of}
use Rattle.block_handles.specs.Store.{Store, IsThere}
use Rattle.lmem_heap.specs.declared.error.RoomError.{RoomError}
use Rattle.lmem_heap.specs.declared.error.RoomError.TheVariants as room
use Rattle.lmem_heap.specs.Refusals.{IsRoomError}
use Rattle.chunk_calls.specs.Heaps.{chunks_at, size_at}
use Rattle.chunk_calls.specs.Heaps.{HoldsHeap, Rechunks, Edits, Regrows}
use Rattle.chunk_calls.proofs.Regrown.{rechunked-there, rechunked-heap, rechunked-chunks, rechunked-size, rechunked-again}

-- a change of a heap for which its block has grown
module _ (f : List (Option (List ℕ)) → List (Option (List ℕ))) (old grown : Store) (name : Name) (there : IsThere old (slot_of name))
    (less : size_at old name < need (f (chunks_at old name)))
    (small : need (f (chunks_at old name)) ≤ 65520) (made : Rechunks old grown (slot_of name) (chunks_at old name) (need (f (chunks_at old name))))
  where
    abbrev needed : ℕ
    needed = need (f (chunks_at old name))

    pub room-heap : HoldsHeap grown name
    room-heap = record {
      there = rechunked-there old grown (slot_of name) there (chunks_at old name) needed made;
      heap = rechunked-heap old grown (slot_of name) there (chunks_at old name) needed made;
    }

    pub room-chunks : chunks_at grown name ≡ chunks_at old name
    room-chunks = rechunked-chunks old grown (slot_of name) there (chunks_at old name) needed made

    room-size : size_at grown name ≡ needed
    room-size = rechunked-size old grown (slot_of name) there (chunks_at old name) needed made

    -- then the heap does not request room again
    pub asks-once : (again : RoomError) → IsRoomError again (need (f (chunks_at grown name))) (size_at grown name) → ⊥
    asks-once room.TooBig a = omega (arith, subst (λ cs. 65520 < need (f cs)) room-chunks a, small)
    asks-once (room.NeedMore k) a = omega (arith, subst (λ cs. size_at grown name < need (f cs)) room-chunks a.1, room-size)

    pub regrown : (new : Store) → Edits grown new name (f (chunks_at grown name)) → Regrows old new name (f (chunks_at old name))
    regrown new s =
        let wide : size_at grown name ≡ max (size_at old name) needed = room-size ∙ larger (size_at old name) needed less in
        rechunked-again old grown (slot_of name) there (chunks_at old name) needed made new (f (chunks_at old name)) (max (size_at old name) needed)
        (subst (λ n. Rechunks grown new (slot_of name) (f (chunks_at old name)) n) wide
        (subst (λ cs. Rechunks grown new (slot_of name) (f cs) (size_at grown name)) room-chunks s))
      where
        larger : (n m : ℕ) → n < m → m ≡ max n m
        larger n m less = omega (arith, less)
