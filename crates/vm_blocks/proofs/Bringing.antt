-- Calls that may bring a block into memory, or lock one, put together.
use Rattle.std.proofs.Common.{◌≡◌, ◌≢◌, ◌∙◌, ℕ, ◌+◌, None, Some, refl, sym, ap, subst, arith, inl, inr}
use Rattle.std.specs.Prelude.{◌↔◌, IfSome, OnErr, OnOk, Result, Ok, Err}
use Rattle.geos_terms.specs.Names.{vm}
use Rattle.geos_terms.specs.declared.refusal.Refusal.TheVariants as refusal
use Rattle.geos_calls.specs.Legal.{AreBytes}
use Rattle.geos_calls.specs.VmCalls.{bring}
use Rattle.block_handles.specs.Change.{with_locks}
use Rattle.block_handles.specs.Names.{IsHandle}
use Rattle.block_handles.specs.Store.{Store, IsBlock, IsThere, block_at, bytes_of, locks_in, locks_of}
use Rattle.block_handles.proofs.Laws.{handle_of_there}
use Rattle.block_handles.proofs.Layouts.{there_of_locks}
use Rattle.vm_file.specs.Device.{Medium}
use Rattle.vm_file.specs.State.{FileState}
use Rattle.vm_file.proofs.Moments.{reads_none}
use Rattle.vm_blocks.specs.declared.entries.Held.{Held}
use Rattle.vm_blocks.specs.declared.error.BringError.{BringError}
use Rattle.vm_blocks.specs.declared.error.BringError.TheVariants as error
use Rattle.vm_blocks.specs.declared.error.LockError.{LockError}
use Rattle.vm_blocks.specs.declared.error.LockError.TheVariants as lock
use Rattle.vm_blocks.specs.View.{VmState, bytes_read, held_at, vm_slot, with_device}
use Rattle.vm_blocks.specs.Tied.{IsTied}
use Rattle.vm_blocks.specs.Room.{DiscardsAndMakes, DiscardsForRoom, LacksRoom, RemainOrNoRoom, StaysOrGoes, Thins}
use Rattle.vm_blocks.specs.Bring.{Brought, Drops, Fills, Keeps, KeptOrGoes, LockedMore, NotBrought}
use Rattle.vm_blocks.specs.Bringing.{BringsBlock, ReadsDevice}
use Rattle.vm_blocks.specs.DoesRow.{DoesRow}
use Rattle.vm_blocks.specs.ListedCalls.{lock_listed}
use Rattle.vm_blocks.specs.Refused.{lock_error_of, of_bring, of_lock}
use Rattle.vm_blocks.proofs.Slots.{no-block}
use Rattle.vm_blocks.proofs.Thinning.{tied-thins}
use Rattle.vm_blocks.proofs.Brings.{dropped-keeps, dropped-tied, filled-keeps, filled-locks, filled-there, fills-others, read-tied}
use Rattle.vm_blocks.proofs.BringRows.{absent-bytes, bring-there, fetch-does, thins-absent}
use Rattle.vm_blocks.proofs.Counts.{keeps-locked, locked-tied, locks-more}
use Rattle.vm_blocks.proofs.LockRows.{known, lock-done, lock-full, lock-refused, not-brought-few}
use Rattle.vm_blocks.proofs.Wanting.{always-listed, discards-remain, listed-more, locked-remain, made-remain, remain-more, same-remain}

-- The device

module _ {D : Type 0} (medium : Medium D) where
  -- the device was not called
  pub reads-nothing : (fails : Type 0) (f : FileState D) → (fails → ⊥) → ReadsDevice medium fails f f
  reads-nothing fails f never = record {
    pair = refl;
    reads = reads_none medium f.device;
    cause =
        λ good failed. absurd (never failed);
    counted = λ passed. refl;
    steadily = λ steady room. (room, refl);
  }

  -- it failed in the same cases
  pub reads-as : {P Q : Type 0} (f g : FileState D) → (Q → P) → (P → Q) → ReadsDevice medium P f g → ReadsDevice medium Q f g
  reads-as f g back forth r = record {
    pair = r.pair;
    reads = r.reads;
    cause = λ good fails. r.cause good (back fails);
    counted =
        λ never. r.counted (λ p. never (forth p));
    steadily = r.steadily;
  }

-- Nothing was done

pub not-changed : (s : Store) (h : ℕ) → NotBrought s s h
not-changed s h = record { stays = λ there. refl; absent = λ none. no-block (block_at s (vm_slot h)) none }

pub nothing-brings : {D E : Type 0} (medium : Medium D) (room disk : E) (h : ℕ) (r : Result (Unit {0}) E) (v : VmState D) (s : Store)
    → IsTied medium v s → OnErr r (NotBrought s s h) → (r ≡ Err room → ⊥) → (r ≡ Err disk → ⊥)
    → BringsBlock medium room disk h r v v s s
nothing-brings medium room disk h r v s tied err roomy never = record {
  tied = tied;
  same = refl;
  there = λ there. refl;
  unlisted = λ none. (refl, refl);
  absent = λ is. absurd (never is);
  err = err;
  keeps = record { each = λ slot ne. inl (refl, λ some. refl); laid = tied.laid; len = refl };
  no_room = λ is. absurd (roomy is);
  wanted = always-listed (λ held. RemainOrNoRoom s s h held.len) (held_at v h) (λ held. same-remain s s h held.len refl);
  device = reads-nothing medium (r ≡ Err disk) v.file never;
}

-- The same refusal, as another error

pub brings-as : {D E F : Type 0} (medium : Medium D) (room disk a : E) (room' disk' b : F) (h : ℕ) (v w : VmState D) (s t : Store)
    → (b ≡ room' → a ≡ room) → (b ≡ disk' → a ≡ disk) → (a ≡ disk → b ≡ disk')
    → BringsBlock medium room disk h (Err a) v w s t → BringsBlock medium room' disk' h (Err b) v w s t
brings-as medium room disk a room' disk' b h v w s t for_room for_disk so b_is = record {
  tied = b_is.tied;
  same = b_is.same;
  there = b_is.there;
  unlisted = b_is.unlisted;
  absent = λ is. b_is.absent (ap Err (for_disk (let e : b ≡ disk' = cc in e)));
  err = b_is.err;
  keeps = b_is.keeps;
  no_room = λ is. b_is.no_room (ap Err (for_room (let e : b ≡ room' = cc in e)));
  wanted = b_is.wanted;
  device = reads-as medium v.file w.file (λ is. ap Err (for_disk (let e : b ≡ disk' = cc in e)))
      (λ is. ap Err (so (let e : a ≡ disk = cc in e))) b_is.device;
}

-- nothing was refused, by whatever errors
pub brings-on : {D E F : Type 0} (medium : Medium D) (room disk : E) (room' disk' : F) (h : ℕ) (v w : VmState D) (s t : Store)
    → BringsBlock medium room disk h (Ok tt) v w s t → BringsBlock medium room' disk' h (Ok tt) v w s t
brings-on medium room disk room' disk' h v w s t b = record {
  tied = b.tied;
  same = b.same;
  there = b.there;
  unlisted = b.unlisted;
  absent = λ is. absurd cc;
  err = tt;
  keeps = b.keeps;
  no_room = λ is. absurd cc;
  wanted = b.wanted;
  device = reads-as medium v.file w.file (λ is. absurd cc) (λ is. absurd cc) b.device;
}

-- A listed block that is not in memory

thins-keeps : {D : Type 0} (v : VmState D) (s t : Store) (h : ℕ) → Thins v s t h → Keeps v s t h
thins-keeps {D} v s t h thins = record { each = λ slot ne. on slot (thins.each slot); laid = thins.laid; len = thins.len }
  where
    on : (slot : ℕ) → StaysOrGoes v s t h slot → KeptOrGoes v s t h slot
    on slot (inl u) = inl (u.0, λ some. u.1)
    on slot (inr g) = inr g

-- what is done for one
pub record Fetches {D : Type 0} (medium : Medium D) (h : ℕ) (r : Result (Unit {0}) BringError) (v w : VmState D) (s t : Store) : Type 0 where
  pub brings : BringsBlock medium error.NoRoom error.Disk h r v w s t
  pub known : r ≡ Err error.BadHandle → ⊥
  pub ok : OnOk r (Brought s t h)
  pub row : DoesRow medium (bring h) (of_bring r) v s w t

module _ {D : Type 0} (medium : Medium D) (v : VmState D) (s : Store) (h : ℕ) (e : Held) (q : IsHandle h)
    (tied : IsTied medium v s) (listed : held_at v h ≡ Some e) (absent : IsThere s (vm_slot h) → ⊥) where
  fetches : (r : Result (Unit {0}) BringError) (w : VmState D) (t : Store) → IsTied medium w t → w ≡ with_device v w.file.device
      → Keeps v s t h → locks_of t (vm_slot h) ≡ 0 → AreBytes (bytes_of t (vm_slot h))
      → (r ≡ Err error.BadHandle → ⊥) → OnOk r (IsThere t (vm_slot h)) → OnErr r (IsThere t (vm_slot h) → ⊥)
      → (r ≡ Err error.NoRoom → LacksRoom v s t (vm h) e.len) → RemainOrNoRoom s t h e.len
      → ReadsDevice medium (r ≡ Err error.Disk) v.file w.file → Fetches medium h r v w s t
  fetches r w t now same keeps free bytes known there gone no_room wanted device = record {
    brings = record {
      tied = now;
      same = same;
      there = λ was. absurd (absent was);
      unlisted = λ none. (let no : None ≡ Some e = sym none ∙ listed in absurd cc);
      absent = away r gone;
      err = not r gone;
      keeps = keeps;
      no_room = λ is. subst (λ o. IfSome o (λ held. LacksRoom v s t (vm h) held.len)) (sym listed) (no_room is);
      wanted = subst (λ o. IfSome o (λ held. RemainOrNoRoom s t h held.len)) (sym listed) wanted;
      device = device;
    };
    known = known;
    ok = brought r there;
    row = fetch-does medium v w s t h e r q listed absent tied now same keeps free bytes device.reads known gone no_room device.cause;
  }
    where
      away : (r : Result (Unit {0}) BringError) → OnErr r (IsThere t (vm_slot h) → ⊥) → r ≡ Err error.Disk → IsThere t (vm_slot h) → ⊥
      away (Ok done) gone is = absurd cc
      away (Err why) gone is = gone

      not : (r : Result (Unit {0}) BringError) → OnErr r (IsThere t (vm_slot h) → ⊥) → OnErr r (NotBrought s t h)
      not (Ok done) gone = tt
      not (Err why) gone = record { stays = λ was. absurd (absent was); absent = λ none. no-block (block_at t (vm_slot h)) gone }

      brought : (r : Result (Unit {0}) BringError) → OnOk r (IsThere t (vm_slot h)) → OnOk r (Brought s t h)
      brought (Ok done) there = record {
        there = there;
        locks = free ∙ sym (ap locks_in (no-block (block_at s (vm_slot h)) absent));
        stays =
            λ was. absurd (absent was);
      }
      brought (Err why) there = tt

  -- there was no room
  pub lacks-fetches : (t : Store) → LacksRoom v s t (vm h) e.len → DiscardsForRoom v s t h (vm_slot h) e.len
      → Fetches medium h (Err error.NoRoom) v v s t
  lacks-fetches t lacks wanted =
      let gone : IsThere t (vm_slot h) → ⊥ = thins-absent v s t h (vm_slot h) lacks.thins absent in
      fetches (Err error.NoRoom) v t (tied-thins medium v s t h tied lacks.thins) refl (thins-keeps v s t h lacks.thins)
      (ap locks_in (no-block (block_at t (vm_slot h)) gone)) (absent-bytes (block_at t (vm_slot h)) gone)
      (λ is. absurd cc) tt gone (λ is. lacks) (discards-remain s t h e.len v wanted) (reads-nothing medium _ v.file (λ is. absurd cc))

  -- room was made, and it was read
  pub read-fetches : (m t : Store) (f : FileState D) (r : Result (Unit {0}) BringError) → DiscardsAndMakes v s m (vm h) e.len
      → f ≡ record v.file { device = f.device }
      → OnOk r (Fills m t h) → (medium.honest v.file.device → OnOk r (bytes_of t (vm_slot h) ≡ bytes_read medium.image v.file h))
      → OnOk r (AreBytes (bytes_of t (vm_slot h))) → OnErr r (Drops m t h) → OnErr r (r ≡ Err error.Disk)
      → ReadsDevice medium (r ≡ Err error.Disk) v.file f → Fetches medium h r v (record v { file = f }) s t
  read-fetches m t f (Ok done) made same fills read values drops disk device =
      fetches (Ok done) (record v { file = f }) t (read-tied medium v s h e q tied listed absent m t made fills read
      f same device.pair device.reads.was) (ap (λ x. let w : VmState D = record v { file = x } in w) same)
      (filled-keeps medium v s h e q tied listed absent m t made fills) (filled-locks medium v s h e q tied listed absent m t made fills) values
      (λ is. absurd cc) (filled-there medium v s h e q tied listed absent m t made fills) tt (λ is. absurd cc)
      (remain-more s m h e.len t q (fills-others m t h fills) (made-remain v s m h e.len q made)) device
  read-fetches m t f (Err why) made same fills read values drops disk device =
      let gone : IsThere t (vm_slot h) → ⊥ = λ there. subst IsBlock drops.gone there in
      fetches (Err why) (record v { file = f }) t (dropped-tied medium v s h e q tied listed absent m t made drops
      f same device.pair device.reads.was) (ap (λ x. let w : VmState D = record v { file = x } in w) same)
      (dropped-keeps medium v s h e q tied listed absent m t made drops) (ap locks_in drops.gone) (absent-bytes (block_at t (vm_slot h)) gone)
      (λ is. absurd cc) tt gone (λ is. absurd cc)
      (remain-more s m h e.len t q drops.others (made-remain v s m h e.len q made)) device

-- Locks

-- what is done to lock a block
pub record Locks {D : Type 0} (medium : Medium D) (h : ℕ) (r : Result (Unit {0}) LockError) (v w : VmState D) (s t : Store) : Type 0 where
  pub brings : BringsBlock medium lock.NoRoom lock.Disk h r v w s t
  pub bad_handle : (r ≡ Err lock.BadHandle) ↔ (held_at v h ≡ None)
  pub locked : (r ≡ Err lock.Locked) ↔ (locks_of s (vm_slot h) ≡ 65535)
  pub ok : OnOk r (LockedMore s t h)
  pub row : DoesRow medium (lock_listed h) (of_lock r) v s w t

module _ {D : Type 0} (medium : Medium D) (v w : VmState D) (s t : Store) (h : ℕ) where
  -- one that was brought, and whose count is not full
  pub brought-locks : (u : Store) → BringsBlock medium error.NoRoom error.Disk h (Ok tt) v w s t → (held_at v h ≡ None → ⊥)
      → Brought s t h → DoesRow medium (bring h) (Ok tt) v s w t
      → locks_of t (vm_slot h) ≢ 65535 → u ≡ with_locks t (vm_slot h) (locks_of t (vm_slot h) + 1) → Locks medium h (Ok tt) v w s u
  brought-locks u b listed brought row few is =
      let n : ℕ = locks_of t (vm_slot h) + 1 in
      let handle : IsHandle h = handle_of_there t t (vm h) refl b.tied.laid brought.there in
      record {
        brings = record {
          tied = locked-tied medium w t u h n handle b.tied brought.there is;
          same = b.same;
          there = b.there;
          unlisted = λ none. absurd (listed none);
          absent = λ fails. absurd cc;
          err = tt;
          keeps = keeps-locked v s t u h n b.keeps brought.there is;
          no_room = λ fails. absurd cc;
          wanted = listed-more (λ held. RemainOrNoRoom s t h held.len) (λ held. RemainOrNoRoom s u h held.len)
              (held_at v h) (λ held. locked-remain s t u h held.len n handle is) b.wanted;
          device = reads-as medium v.file w.file (λ fails. absurd cc) (λ fails. absurd cc) b.device;
        };
        bad_handle = ((λ fails. absurd cc), (λ none. absurd (listed none)));
        locked = ((λ fails. absurd cc), (λ full. absurd (few (brought.locks ∙ full))));
        ok = locks-more s t u h b.tied.laid brought is;
        row = lock-done medium v w s t h b.tied few u brought.there is row;
      }

  -- one that was not brought
  pub not-brought-locks : (why : BringError) → BringsBlock medium error.NoRoom error.Disk h (Err why) v w s t
      → ((let r : Result (Unit {0}) BringError = Err why in r ≡ Err error.BadHandle) ↔ (held_at v h ≡ None))
      → DoesRow medium (bring h) (of_bring (Err why)) v s w t → locks_of s (vm_slot h) ≢ 65535 → Locks medium h (Err (lock_error_of why)) v w s t
  not-brought-locks error.BadHandle b bad row few = record {
    brings = brings-as medium error.NoRoom error.Disk error.BadHandle lock.NoRoom lock.Disk lock.BadHandle h v w s t
        (λ is. absurd cc) (λ is. absurd cc) (λ is. absurd cc) b;
    bad_handle = ((λ is. bad.0 refl), (λ none. refl));
    locked = ((λ is. absurd cc), (λ full. absurd (few full)));
    ok = tt;
    row = lock-refused medium v w s t h b.tied (not-brought-few s t h b.err few) refusal.BadHandle row;
  }
  not-brought-locks error.NoRoom b bad row few = record {
    brings = brings-as medium error.NoRoom error.Disk error.NoRoom lock.NoRoom lock.Disk lock.NoRoom h v w s t
        (λ is. refl) (λ is. absurd cc) (λ is. absurd cc) b;
    bad_handle = ((λ is. absurd cc), (λ none. (let other = bad.1 none in absurd cc)));
    locked = ((λ is. absurd cc), (λ full. absurd (few full)));
    ok = tt;
    row = lock-refused medium v w s t h b.tied (not-brought-few s t h b.err few) refusal.NoRoom row;
  }
  not-brought-locks error.Disk b bad row few = record {
    brings = brings-as medium error.NoRoom error.Disk error.Disk lock.NoRoom lock.Disk lock.Disk h v w s t
        (λ is. absurd cc) (λ is. refl) (λ is. refl) b;
    bad_handle = ((λ is. absurd cc), (λ none. (let other = bad.1 none in absurd cc)));
    locked = ((λ is. absurd cc), (λ full. absurd (few full)));
    ok = tt;
    row = lock-refused medium v w s t h b.tied (not-brought-few s t h b.err few) refusal.Disk row;
  }

module _ {D : Type 0} (medium : Medium D) (v : VmState D) (s t : Store) (h : ℕ) (tied : IsTied medium v s) where
  -- it is listed
  pub listed-there : IsThere s (vm_slot h) → held_at v h ≡ None → ⊥
  listed-there there none = (let k = known medium v s h tied there in let no = sym none ∙ k.listed in absurd cc)

  -- one that was in memory
  pub there-locks : IsThere s (vm_slot h) → locks_of s (vm_slot h) ≢ 65535 → t ≡ with_locks s (vm_slot h) (locks_of s (vm_slot h) + 1)
      → Locks medium h (Ok tt) v v s t
  there-locks there few is =
      let k = known medium v s h tied there in
      brought-locks medium v v s s h t (nothing-brings medium error.NoRoom error.Disk h (Ok tt) v s tied tt (λ is. absurd cc) (λ is. absurd cc))
      (listed-there there)
      (record { there = there; locks = refl; stays = λ was. refl }) (bring-there medium v s h tied k.handle k.held k.listed) few is

  -- one whose count is full
  pub full-locks : locks_of s (vm_slot h) ≡ 65535 → t ≡ s → Locks medium h (Err lock.Locked) v v s t
  full-locks full same =
      subst (λ u. Locks medium h (Err lock.Locked) v v s u) (sym same) (record {
        brings = nothing-brings medium lock.NoRoom lock.Disk h (Err lock.Locked) v s tied (not-changed s h) (λ is. absurd cc) (λ is. absurd cc);
        bad_handle = ((λ is. absurd cc), (λ none. absurd (listed-there there none)));
        locked = ((λ is. full), (λ was. refl));
        ok = tt;
        row = lock-full medium v s h tied full;
      })
    where
      there : IsThere s (vm_slot h)
      there = there_of_locks s (vm_slot h) (omega (arith, full))
