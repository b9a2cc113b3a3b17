-- The calls on blocks of the VM file, computed on examples.
use Rattle.std.proofs.Common.{◌≡◌, ℕ, true, false, replicate, refl}
use Rattle.std.specs.Prelude.{Result, Ok, Err}
use Rattle.geos_terms.specs.declared.refusal.Refusal.{Refusal}
use Rattle.geos_terms.specs.declared.refusal.Refusal.TheVariants.{BadHandle, BadChunk, NoHandle, Locked, Disk, Reserved}
use Rattle.geos_terms.specs.Names.{mem, vm}
use Rattle.geos_terms.specs.Bytes.{word, word_bytes}
use Rattle.geos_terms.specs.Chunks.{cost}
use Rattle.geos_calls.specs.Memory.{Memory, is_marked, locks_of, with_locks, size_of, block_of}
use Rattle.geos_calls.specs.Effects.{Nothing, InBlock, OfLock, outcome, effect_of}
use Rattle.geos_calls.specs.Calls.{mnew, unlock, mfree, lalloc, deref, load16, store}
use Rattle.geos_calls.specs.VmCalls.{vnew, lock_listed, vlock, bring, vdirty, vunlock, free_listed, vfree, vfind, vuid, vgetmap, vsetmap, vupdate}
use Rattle.geos_calls.specs.ItemCalls.{gnew, gfree}
use Rattle.worked_examples.proofs.States.{willing}
use Rattle.worked_examples.proofs.CallsInTurn.{crowded, failing, start, answer_under, left_under, says, next, stales, listing, bytes_in_file, sized_in_file, filled}

-- a new block, of handle h, with the word w in its chunk 16, which becomes the map block
abbrev pub put : ℕ → ℕ → Memory → Memory
put h w memory = next (vunlock h)
    (next (vsetmap h) (next (store (bytes_in_file h 16 2) 0 (word_bytes w)) (next (lalloc (vm h) 2) (next (vnew 5) memory))))

-- the word that is read in the map block of handle h
abbrev pub got : ℕ → Memory → Result ℕ Refusal
got h memory = says (load16 (bytes_in_file h 16 2) 0) (next (vlock h) memory)

-- a word is put, memory is filled, and the word is read again: the block is marked, so it stays
pub record Putting : Type 0 where
  pub made : says (vnew 5) start ≡ Ok 1
  pub locked : locks_of (next (vnew 5) start) (vm 1) ≡ 1
  pub marked : is_marked (next (vnew 5) start) 1 ≡ true
  pub chunk : says (lalloc (vm 1) 2) (next (vnew 5) start) ≡ Ok 16
  pub found : says (deref (vm 1) 16 2) (next (lalloc (vm 1) 2) (next (vnew 5) start)) ≡ Ok (bytes_in_file 1 16 2)
  pub map : says vgetmap (put 1 77 start) ≡ Ok 1
  pub unlocked : locks_of (put 1 77 start) (vm 1) ≡ 0
  pub full : size_of (filled (put 1 77 start)) (mem 1) ≡ 65024
  pub stays : answer_under crowded (vlock 1) (filled (put 1 77 start)) ≡ Ok tt
  pub read : got 1 (filled (put 1 77 start)) ≡ Ok 77

putting_computed : Putting
unfolding cost word
putting_computed = record {
  made = refl;
  locked = refl;
  marked = refl;
  chunk = refl;
  found = refl;
  map = refl;
  unlocked =
      refl;
  full = refl;
  stays = refl;
  read = refl;
}

-- user IDs, groups, handles and locks: what is refused
pub record Refusing : Type 0 where
  pub reserved : says (vnew 65280) start ≡ Err Reserved
  pub no_handle : answer_under crowded (vnew 5)
      (record start { file = record start.file { cur = listing (replicate 5 (sized_in_file 5 64 true 0)) } }) ≡ Err NoHandle
  pub group : says (vlock 1) (next gnew start) ≡ Err Reserved
  pub zero : says (vlock 0) start ≡ Err BadHandle
  pub odd : says (deref (vm 1) 17 0) (next (lalloc (vm 1) 2) (next (vnew 5) start)) ≡ Err BadChunk
  pub most : says (vlock 1) (with_locks (put 1 77 start) (vm 1) 65535) ≡ Err Locked
  pub disk : answer_under failing (vlock 1) (put 1 77 start) ≡ Err Disk
  pub as_it_was : left_under failing (vlock 1) (put 1 77 start) ≡ put 1 77 start
  pub held : says (vfree 1) (next (vnew 5) start) ≡ Err Locked
  pub free_group : says (vfree 1) (next gnew start) ≡ Err Reserved
  pub free_none : says (vfree 2) (next gnew start) ≡ Err BadHandle
  pub map_none : says (vsetmap 2) (next gnew start) ≡ Err BadHandle
  pub map_group : says (vsetmap 1) (next gnew start) ≡ Err Reserved
  pub find_group : says (vfind 0 65280) (next gnew start) ≡ Err Reserved
  pub uid_none : says (vuid 2) (next gnew start) ≡ Err BadHandle

refusing_computed : Refusing
unfolding cost
refusing_computed = record {
  reserved = refl;
  no_handle = refl;
  group = refl;
  zero = refl;
  odd = refl;
  most = refl;
  disk = refl;
  as_it_was = refl;
  held = refl;
  free_group = refl;
  free_none = refl;
  map_none = refl;
  map_group = refl;
  find_group = refl;
  uid_none = refl;
}

-- two blocks with user ID 5, a group, and a block with user ID 9
abbrev pub four : Memory
four = next (vnew 9) (next gnew (next (vnew 5) (next (vnew 5) start)))

-- what calls return about blocks
pub record Telling : Type 0 where
  pub uid : says (vuid 4) four ≡ Ok 9
  pub group_uid : says (vuid 3) four ≡ Ok 65280
  pub first : says (vfind 0 5) four ≡ Ok 1
  pub above : says (vfind 1 5) four ≡ Ok 2
  pub none_above : says (vfind 2 5) four ≡ Ok 0
  pub other : says (vfind 0 9) four ≡ Ok 4
  pub never : says (vfind 0 6) four ≡ Ok 0
  pub no_entry : says (vfind 0 0) four ≡ Ok 0
  pub past : says (vfind 9 5) four ≡ Ok 0
  pub map : says vgetmap (next (vsetmap 4) four) ≡ Ok 4
  pub clear : says vgetmap (next (vsetmap 0) (next (vsetmap 4) four)) ≡ Ok 0

telling_computed : Telling
telling_computed = record {
  uid = refl;
  group_uid = refl;
  first = refl;
  above = refl;
  none_above = refl;
  other =
      refl;
  never = refl;
  no_entry = refl;
  past = refl;
  map = refl;
  clear = refl;
}

-- below the kernel a group is locked and freed as a block is
pub record Below : Type 0 where
  pub lock_group : outcome (effect_of (lock_listed 3) willing four) ≡ (Ok tt, with_locks four (vm 3) 1)
  pub lock_block : outcome (effect_of (lock_listed 4) willing four) ≡ outcome (effect_of (vlock 4) willing four)
  pub lock_none : says (lock_listed 5) four ≡ Err BadHandle
  pub lock_most : answer_under failing (lock_listed 3) (with_locks four (vm 3) 65535) ≡ Err Locked
  pub lock_disk : answer_under failing (lock_listed 3) four ≡ Err Disk
  pub free_group : next (free_listed 3) four ≡ next (gfree 3) four
  pub free_none : says (free_listed 5) four ≡ Err BadHandle
  pub free_held : says (free_listed 3) (with_locks four (vm 3) 1) ≡ Err Locked

below_computed : Below
below_computed = record {
  lock_group = refl;
  lock_block = refl;
  lock_none = refl;
  lock_most = refl;
  lock_disk =
      refl;
  free_group = refl;
  free_none = refl;
  free_held = refl;
}

-- the lowest free handle is given again; blocks and groups share a range, and global memory has
-- its own
pub record Again : Type 0 where
  pub second : says (vnew 5) (next (vunlock 1) (next (vnew 5) start)) ≡ Ok 2
  pub freed : says (vnew 5) (next (vfree 1) (next (vunlock 1) four)) ≡ Ok 1
  pub gone : says (vlock 1) (next (vfree 1) (next (vunlock 1) four)) ≡ Err BadHandle
  pub group : says gnew (next (vfree 1) (next (vunlock 1) four)) ≡ Ok 1
  pub block : says (vnew 5) (next (gfree 3) four) ≡ Ok 3
  pub apart : says mnew four ≡ Ok 1
  pub other_apart : says (vnew 5) (next mnew start) ≡ Ok 1
  pub not_freed : block_of (next (mfree 1) (next (unlock (mem 1)) (next mnew four))) (vm 1) ≡ block_of four (vm 1)

again_computed : Again
again_computed = record { second = refl; freed = refl; gone = refl; group = refl; block = refl; apart = refl; other_apart = refl; not_freed = refl }

-- the map block that is freed is no map block any more, and what becomes of marks
pub record Maps : Type 0 where
  pub freed : says vgetmap (next (vfree 2) (next (vunlock 2) (next (vsetmap 2) four))) ≡ Ok 0
  pub other : says vgetmap (next (vfree 1) (next (vunlock 1) (next (vsetmap 2) four))) ≡ Ok 2
  pub no_mark : is_marked (next (vfree 1) (next (vunlock 1) four)) 1 ≡ false
  pub clean : is_marked (next vupdate (put 1 77 start)) 1 ≡ false
  pub locked_clean : is_marked (next (vlock 1) (next vupdate (put 1 77 start))) 1 ≡ false
  pub dirty : is_marked (next (vdirty 1) (next (vlock 1) (next vupdate (put 1 77 start)))) 1 ≡ true
  pub unlocked_dirty : is_marked (next (vunlock 1) (next (vdirty 1) (next (vlock 1) (next vupdate (put 1 77 start))))) 1 ≡ true

maps_computed : Maps
unfolding cost
maps_computed = record { freed = refl; other = refl; no_mark = refl; clean = refl; locked_clean = refl; dirty = refl; unlocked_dirty = refl }

-- what becomes stale: as of blocks of global memory, and nothing else
pub record Stale : Type 0 where
  pub by_vnew : stales (vnew 5) four ≡ Nothing
  pub by_vlock : stales (vlock 1) four ≡ Nothing
  pub by_vdirty : stales (vdirty 1) four ≡ Nothing
  pub by_vunlock : stales (vunlock 1) four ≡ OfLock (vm 1)
  pub by_vfree : stales (vfree 1) four ≡ Nothing
  pub by_vfind : stales (vfind 0 5) four ≡ Nothing
  pub by_vuid : stales (vuid 1) four ≡ Nothing
  pub by_vgetmap : stales vgetmap four ≡ Nothing
  pub by_vsetmap : stales (vsetmap 1) four ≡ Nothing
  pub by_vupdate : stales vupdate four ≡ Nothing
  pub by_lalloc : stales (lalloc (vm 1) 2) four ≡ InBlock (vm 1)
  pub brought : left_under crowded (bring 1) four ≡ four

stale_computed : Stale
unfolding cost
stale_computed = record {
  by_vnew = refl;
  by_vlock = refl;
  by_vdirty = refl;
  by_vunlock = refl;
  by_vfree = refl;
  by_vfind = refl;
  by_vuid = refl;
  by_vgetmap = refl;
  by_vsetmap = refl;
  by_vupdate = refl;
  by_lalloc = refl;
  brought = refl;
}
