-- The calls on groups and items, computed on examples.
use Rattle.std.proofs.Common.{◌≡◌, true, false, [], ◌∷◌, Some, None, refl}
use Rattle.std.specs.Prelude.{Ok, Err}
use Rattle.geos_terms.specs.declared.refusal.Refusal.TheVariants.{BadHandle, BadChunk, Short, Locked, Disk, Range}
use Rattle.geos_terms.specs.Names.{vm}
use Rattle.geos_terms.specs.Bytes.{word}
use Rattle.geos_terms.specs.Chunks.{cost}
use Rattle.geos_calls.specs.Memory.{Memory, is_marked, locks_of, with_locks, chunks_at}
use Rattle.geos_calls.specs.Effects.{Nothing, InBlock, OfLock}
use Rattle.geos_calls.specs.Calls.{deref, load16}
use Rattle.geos_calls.specs.VmCalls.{vnew, vsave}
use Rattle.geos_calls.specs.ItemCalls.{gnew, gfree, inew, ifree, irealloc, iins, idel, ilock, idirty, iunlock, igetmap, isetmap}
use Rattle.worked_examples.proofs.CallsInTurn.{failing, start, answer_under, says, next, stales, bytes_in_file}

-- a group with two items of four bytes
abbrev pub two_items : Memory
two_items = next (inew 1 4) (next (inew 1 4) (next gnew start))

-- both items are locked, and a third one is made
abbrev pub third : Memory
third = next (inew 1 4) (next (ilock 1 18 4) (next (ilock 1 16 4) two_items))

-- a group whose items are locked gets another one, and goes when it is locked no more
pub record Items : Type 0 where
  pub group : says gnew start ≡ Ok 1
  pub marked : is_marked (next gnew start) 1 ≡ true
  pub not_locked : locks_of (next gnew start) (vm 1) ≡ 0
  pub first : says (inew 1 4) (next gnew start) ≡ Ok 16
  pub second : says (inew 1 4) (next (inew 1 4) (next gnew start)) ≡ Ok 18
  pub free_again : says (inew 1 8) (next (ifree 1 16) two_items) ≡ Ok 16
  pub lock : says (ilock 1 16 4) two_items ≡ Ok (bytes_in_file 1 16 4)
  pub other : says (ilock 1 18 4) (next (ilock 1 16 4) two_items) ≡ Ok (bytes_in_file 1 18 4)
  pub new : says (inew 1 4) (next (ilock 1 18 4) (next (ilock 1 16 4) two_items)) ≡ Ok 20
  pub moved : stales (inew 1 4) (next (ilock 1 18 4) (next (ilock 1 16 4) two_items)) ≡ InBlock (vm 1)
  pub locks : locks_of third (vm 1) ≡ 2
  pub again : says (deref (vm 1) 16 4) third ≡ Ok (bytes_in_file 1 16 4)
  pub read : says (load16 (bytes_in_file 1 16 4) 0) third ≡ Ok 0
  pub held : says (gfree 1) (next (iunlock 1) third) ≡ Err Locked
  pub freed : says (gfree 1) (next (iunlock 1) (next (iunlock 1) third)) ≡ Ok tt

items_computed : Items
unfolding cost word
items_computed = record {
  group = refl;
  marked = refl;
  not_locked = refl;
  first = refl;
  second = refl;
  free_again = refl;
  lock = refl;
  other = refl;
  new = refl;
  moved = refl;
  locks = refl;
  again = refl;
  read = refl;
  held = refl;
  freed = refl;
}

-- the two items, when nothing is marked
abbrev pub saved : Memory
saved = next vsave two_items

-- calls on items mark the group where they succeed; to lock an item does not
pub record Marks : Type 0 where
  pub clean : is_marked saved 1 ≡ false
  pub by_ilock : is_marked (next (ilock 1 16 4) saved) 1 ≡ false
  pub by_idirty : is_marked (next (idirty 1) (next (ilock 1 16 4) saved)) 1 ≡ true
  pub by_inew : is_marked (next (inew 1 4) saved) 1 ≡ true
  pub by_ifree : is_marked (next (ifree 1 16) saved) 1 ≡ true
  pub by_irealloc : is_marked (next (irealloc 1 16 8) saved) 1 ≡ true
  pub by_iins : is_marked (next (iins 1 16 0 1) saved) 1 ≡ true
  pub by_idel : is_marked (next (idel 1 16 0 1) saved) 1 ≡ true
  pub refused : next (idel 1 16 0 5) saved ≡ saved
  pub inserted : chunks_at (next (iins 1 16 0 1) (next (irealloc 1 18 1) saved)) (vm 1) ≡ Some (0 ∷ 0 ∷ 0 ∷ 0 ∷ 0 ∷ []) ∷ Some (0 ∷ []) ∷ []
  pub taken_out : chunks_at (next (ifree 1 18) (next (idel 1 16 1 2) saved)) (vm 1) ≡ Some (0 ∷ 0 ∷ []) ∷ None ∷ []

marks_computed : Marks
unfolding cost
marks_computed = record {
  clean = refl;
  by_ilock = refl;
  by_idirty = refl;
  by_inew = refl;
  by_ifree = refl;
  by_irealloc = refl;
  by_iins = refl;
  by_idel = refl;
  refused = refl;
  inserted = refl;
  taken_out = refl;
}

-- a group, which has handle 1, and a block that is none, which has handle 2
abbrev pub beside : Memory
beside = next (vnew 5) two_items

-- what is refused: the group first, then its locks and the device, then the item
pub record Refusing : Type 0 where
  pub no_group : says (inew 2 4) beside ≡ Err BadHandle
  pub nothing_there : says (ifree 3 16) beside ≡ Err BadHandle
  pub no_group_lock : says (ilock 2 16 4) beside ≡ Err BadHandle
  pub no_group_free : says (gfree 2) beside ≡ Err BadHandle
  pub most : answer_under failing (ilock 1 16 4) (with_locks beside (vm 1) 65535) ≡ Err Locked
  pub lock_disk : answer_under failing (ilock 1 40 4) beside ≡ Err Disk
  pub disk : answer_under failing (ifree 1 40) beside ≡ Err Disk
  pub absent : says (ifree 1 40) beside ≡ Err BadChunk
  pub past : says (iins 1 16 5 1) beside ≡ Err Range
  pub too_many : says (idel 1 16 2 3) beside ≡ Err Range
  pub lock_absent : says (ilock 1 40 4) beside ≡ Err BadChunk
  pub short : says (ilock 1 16 5) beside ≡ Err Short
  pub not_locked : locks_of (next (ilock 1 16 5) beside) (vm 1) ≡ 0

refusing_computed : Refusing
unfolding cost
refusing_computed = record {
  no_group = refl;
  nothing_there = refl;
  no_group_lock = refl;
  no_group_free = refl;
  most = refl;
  lock_disk = refl;
  disk = refl;
  absent = refl;
  past = refl;
  too_many = refl;
  lock_absent = refl;
  short = refl;
  not_locked = refl;
}

-- what becomes stale, done or refused: calls on the items of a group that is none are on no
-- block
pub record Stale : Type 0 where
  pub by_gnew : stales gnew beside ≡ Nothing
  pub by_gfree : stales (gfree 1) beside ≡ Nothing
  pub by_inew : stales (inew 1 4) beside ≡ InBlock (vm 1)
  pub by_ifree : stales (ifree 1 40) beside ≡ InBlock (vm 1)
  pub by_irealloc : stales (irealloc 1 16 5) beside ≡ InBlock (vm 1)
  pub by_iins : stales (iins 1 16 0 1) beside ≡ InBlock (vm 1)
  pub by_idel : stales (idel 1 16 0 1) beside ≡ InBlock (vm 1)
  pub no_group : stales (inew 2 4) beside ≡ Nothing
  pub by_ilock : stales (ilock 1 16 4) beside ≡ Nothing
  pub by_idirty : stales (idirty 1) beside ≡ Nothing
  pub by_iunlock : stales (iunlock 1) beside ≡ OfLock (vm 1)
  pub by_igetmap : stales igetmap beside ≡ Nothing
  pub by_isetmap : stales (isetmap 1 16) beside ≡ Nothing

stale_computed : Stale
unfolding cost
stale_computed = record {
  by_gnew = refl;
  by_gfree = refl;
  by_inew = refl;
  by_ifree = refl;
  by_irealloc = refl;
  by_iins = refl;
  by_idel = refl;
  no_group = refl;
  by_ilock = refl;
  by_idirty = refl;
  by_iunlock = refl;
  by_igetmap = refl;
  by_isetmap = refl;
}

-- if the group of the map item is freed, there is no map item; if only the item is freed, the map item stays
pub record Maps : Type 0 where
  pub none : says igetmap beside ≡ Ok (0, 0)
  pub set : says igetmap (next (isetmap 1 16) beside) ≡ Ok (1, 16)
  pub any_item : says igetmap (next (isetmap 1 77) beside) ≡ Ok (1, 77)
  pub group_freed : says igetmap (next (gfree 1) (next (isetmap 1 16) beside)) ≡ Ok (0, 0)
  pub item_freed : says igetmap (next (ifree 1 16) (next (isetmap 1 16) beside)) ≡ Ok (1, 16)
  pub other_freed : says igetmap (next (gfree 3) (next gnew (next (isetmap 1 16) beside))) ≡ Ok (1, 16)
  pub clear : says igetmap (next (isetmap 0 0) (next (isetmap 1 16) beside)) ≡ Ok (0, 0)
  pub half_clear : says (isetmap 0 5) beside ≡ Err Range
  pub no_group : says (isetmap 9 0) beside ≡ Err BadHandle
  pub block : says (isetmap 2 0) beside ≡ Err BadHandle

maps_computed : Maps
unfolding cost
maps_computed = record {
  none = refl;
  set = refl;
  any_item = refl;
  group_freed = refl;
  item_freed = refl;
  other_freed = refl;
  clear = refl;
  half_clear = refl;
  no_group = refl;
  block = refl;
}

-- in a new file: a group, and an item in it, which is the map item until the group is freed
pub record Fresh : Type 0 where
  pub group : says igetmap (next (isetmap 1 16) (next (inew 1 4) (next gnew start))) ≡ Ok (1, 16)
  pub gone : says igetmap (next (gfree 1) (next (isetmap 1 16) (next (inew 1 4) (next gnew start)))) ≡ Ok (0, 0)

fresh_computed : Fresh
unfolding cost
fresh_computed = record { group = refl; gone = refl }
