-- Calls that lock a group for an item, put together: it is brought, the item is found, it is locked.
use Rattle.std.proofs.Common.{◌≡◌, ◌≢◌, ◌∙◌, ℕ, zero, suc, ◌+◌, ◌≤◌, ◌<◌, length, Bool, true, false, List, [], ◌∷◌, Option, Some, None, refl, sym, ap, arith, inl, inr, subst}
use Rattle.std.specs.Prelude.{◌⊎◌, is_none, nat_lt, Result, Ok, Err}
use Rattle.geos_terms.specs.Block.{chunks}
use Rattle.geos_terms.specs.Chunks.{chunk_of}
use Rattle.geos_terms.specs.Edits.{length_of, refer}
use Rattle.geos_terms.specs.Names.{vm}
use Rattle.geos_terms.specs.Refusals.{first_refusal}
use Rattle.geos_terms.specs.declared.refusal.Refusal.{Refusal}
use Rattle.geos_terms.specs.declared.refusal.Refusal.TheVariants as refusal
use Rattle.geos_calls.specs.ItemCalls.{ilock}
use Rattle.block_handles.specs.Change.{with_locks}
use Rattle.block_handles.specs.Names.{IsHandle}
use Rattle.block_handles.specs.Store.{Store, bytes_in, bytes_of, locks_of}
use Rattle.block_handles.proofs.Laws.{handle_of_there, with_locks-same}
use Rattle.block_handles.proofs.Layouts.{there_small}
use Rattle.vm_file.specs.Device.{Medium}
use Rattle.vm_blocks.specs.DoesRow.{DoesRow}
use Rattle.vm_blocks.specs.Tied.{IsTied}
use Rattle.vm_blocks.specs.Room.{RemainOrNoRoom}
use Rattle.vm_blocks.specs.View.{VmState, held_at, vm_slot, with_device}
use Rattle.vm_blocks.proofs.Bringing.{reads-as, reads-nothing}
use Rattle.vm_blocks.proofs.Counts.{keeps-locked, locked-tied, locks-more}
use Rattle.vm_blocks.proofs.LockRows.{not-brought-few}
use Rattle.vm_blocks.proofs.Wanting.{always-listed, listed-more, locked-remain, same-remain}
use Rattle.chunk_calls.specs.Edits.{Finds}
use Rattle.db_items.specs.Groups.{BringsGroup, IsGroup}
use Rattle.db_items.specs.Items.{LocksItem}
use Rattle.db_items.proofs.Asking.{refer-inside}
use Rattle.db_items.proofs.Changing.{group-or, not_brought-locks, reads-on, refused-so}
use Rattle.db_items.proofs.LockedItems.{lock_found-row, lock_full-row, lock_no_group-row, lock_not_brought-row, lock_refused-row}

-- an item is too short only if the call requires some bytes
short-wanted : (i n : ℕ) (cs : List (Option (List ℕ))) → first_refusal (refer i n cs).refusals ≡ Some refusal.Short → 0 < n
short-wanted i zero cs e = absurd (tests (is_none (chunk_of cs i)) (nat_lt (length_of cs i) 0) (below (length_of cs i)) e)
  where
    below : (k : ℕ) → nat_lt k 0 ≡ false
    below k = grind arith

    tests : (a b : Bool) → b ≡ false → first_refusal ((a, refusal.BadChunk) ∷ (b, refusal.Short) ∷ []) ≡ Some refusal.Short → ⊥
    tests true b none e = absurd (let y : ◌≡◌ {A = Option Refusal} (Some refusal.BadChunk) (Some refusal.Short) = e in cc)
    tests false true none e = absurd cc
    tests false false none e = absurd (let y : ◌≡◌ {A = Option Refusal} None (Some refusal.Short) = e in cc)
short-wanted i (suc n) cs e = omega arith

module _ {D : Type 0} (medium : Medium D) (v : VmState D) (g i n : ℕ) (s : Store) where
  abbrev Locks : Result (ℕ × ℕ) Refusal → VmState D → Store → Type 0
  Locks r w t = LocksItem medium g i n r v w s t

  -- the count is full
  pub lock-full : IsTied medium v s → IsGroup v g → locks_of s (vm_slot g) ≡ 65535 → Locks (Err refusal.Locked) v s
  lock-full tied group many = record {
    tied = tied;
    row = lock_full-row medium v s g i n tied group many;
    same = refl;
    no_group = λ none. absurd (none group);
    keeps = record { each = λ slot ne. inl (refl, λ some. refl); laid = tied.laid; len = refl };
    wanted = always-listed (λ e. RemainOrNoRoom s s g e.len) (held_at v g) (λ e. same-remain s s g e.len refl);
    ok = tt;
    locks = refl;
    refused = λ there. refl;
    there = λ there. (refl, tt, λ e. absurd cc);
    absent = λ e. absurd cc;
    short = λ e. absurd cc;
    finds = tt;
    within = tt;
    no_room = λ e. absurd cc;
    device = reads-nothing medium _ v.file (λ e. absurd cc);
  }

  module _ (w : VmState D) (t : Store) (few : IsGroup v g → locks_of s (vm_slot g) ≢ 65535) where
    still-group : w ≡ with_device v w.file.device → IsGroup v g → IsGroup w g
    still-group same group = subst (λ (x : VmState D). IsGroup x g) (sym same) group

    -- the group was not brought
    pub lock-not_brought : (why : Refusal) → IsTied medium v s → BringsGroup medium g (Err why) v w s t → Locks (Err why) w t
    lock-not_brought why tied b = record {
      tied = b.brings.tied;
      row = row (group-or v g);
      same = b.brings.same;
      no_group = λ none. (let x = b.no_group none in (refused-so why refusal.BadHandle x.0, x.1, x.2));
      keeps = b.brings.keeps;
      wanted = b.brings.wanted;
      ok = tt;
      locks = not_brought-locks s t g b.brings.err;
      refused = b.brings.err.stays;
      there = λ there. (b.brings.there there, tt, λ e. (b.there there).1 (refused-so why refusal.Disk e));
      absent = λ e. b.brings.absent (refused-so why refusal.Disk e);
      short = λ e. absurd (b.not_short (refused-so why refusal.Short e));
      finds = tt;
      within = tt;
      no_room = λ e. b.brings.no_room (refused-so why refusal.NoRoom e);
      device = reads-as medium v.file w.file (refused-so why refusal.Disk) (refused-so why refusal.Disk) b.brings.device;
    }
      where
        row : IsGroup v g ⊎ (IsGroup v g → ⊥) → DoesRow medium (ilock g i n) (Err why) v s w t
        row (inl group) = lock_not_brought-row medium v w s t g i n b.brings.tied (still-group b.brings.same group)
            (not-brought-few s t g b.brings.err (few group)) why (b.row group)
        row (inr none) =
            let x = b.no_group none in
            let is : why ≡ refusal.BadHandle = (let first = x.0 in cc) in
            subst (λ r. DoesRow medium (ilock g i n) (Err r) v s w t) (sym is)
            (subst (λ y. DoesRow medium (ilock g i n) (Err refusal.BadHandle) v s y t) (sym x.1)
            (subst (DoesRow medium (ilock g i n) (Err refusal.BadHandle) v s v) (sym x.2) (lock_no_group-row medium v s g i n tied none)))

    -- it was
    module _ (b : BringsGroup medium g (Ok tt) v w s t) where
      group : IsGroup v g
      group = b.known

      still-few : locks_of t (vm_slot g) ≢ 65535
      still-few many = few group (sym b.ok.locks ∙ many)

      -- and has no such item
      pub lock-refused : (why : Refusal) → Finds (refer i n) (bytes_of t (vm_slot g)) (Err why) → Locks (Err why) w t
      lock-refused why finds = record {
        tied = b.brings.tied;
        row = lock_refused-row medium v w s t g i n b.brings.tied (still-group b.brings.same group) still-few (b.row group) b.ok.there why finds;
        same = b.brings.same;
        no_group = λ none. absurd (none group);
        keeps = b.brings.keeps;
        wanted = b.brings.wanted;
        ok = tt;
        locks = b.ok.locks;
        refused = b.ok.stays;
        there = λ there. (b.brings.there there, tt, no_disk);
        absent = λ e. absurd (no_disk e);
        short = λ e. (let is : why ≡ refusal.Short = cc in short-wanted i n (chunks (bytes_of t (vm_slot g))) (finds ∙ ap Some is));
        finds = tt;
        within = tt;
        no_room = λ e. absurd (let is : why ≡ refusal.NoRoom = cc in refer-inside i n (chunks (bytes_of t (vm_slot g)))
            refusal.NoRoom refl (finds ∙ ap Some is));
        device = reads-on medium v w w refl (λ e. absurd cc) no_disk b.brings.device;
      }
        where
          no_disk : ◌≡◌ {A = Result (ℕ × ℕ) Refusal} (Err why) (Err refusal.Disk) → ⊥
          no_disk e = let is : why ≡ refusal.Disk = cc in refer-inside i n (chunks (bytes_of t (vm_slot g))) refusal.Disk refl (finds ∙ ap Some is)

      -- and has it
      pub lock-found : (u : Store) (place : ℕ × ℕ) → u ≡ with_locks t (vm_slot g) (locks_of t (vm_slot g) + 1)
          → Finds (refer i n) (bytes_of t (vm_slot g)) (Ok place) → (place.0 + place.1 ≤ length (bytes_of t (vm_slot g)))
          × (n ≤ place.1) → Locks (Ok place) w u
      lock-found u place is_u finds within =
          let count : ℕ = locks_of t (vm_slot g) + 1 in
          let p : IsHandle g = handle_of_there t t (vm g) refl b.brings.tied.laid b.ok.there in
          let small : vm_slot g < length t.blocks = omega (
            arith,
            there_small t (vm_slot g) b.brings.tied.laid b.ok.there,
            b.brings.tied.laid.slots,
          ) in
          let bytes : bytes_of u (vm_slot g) ≡ bytes_of t (vm_slot g) = ap (λ x. bytes_of x (vm_slot g)) is_u
          ∙ ap bytes_in (with_locks-same t (vm_slot g) count small) in
          record {
            tied = locked-tied medium w t u g count p b.brings.tied b.ok.there is_u;
            row = lock_found-row medium v w s t g i n b.brings.tied (still-group b.brings.same group) still-few
                (b.row group) b.ok.there u place is_u finds;
            same = b.brings.same;
            no_group = λ none. absurd (none group);
            keeps = keeps-locked v s t u g count b.brings.keeps b.ok.there is_u;
            wanted = listed-more (λ e. RemainOrNoRoom s t g e.len) (λ e. RemainOrNoRoom s u g e.len) (held_at v g)
                (λ e. locked-remain s t u g e.len count p is_u) b.brings.wanted;
            ok = locks-more s t u g b.brings.tied.laid b.ok is_u;
            locks = tt;
            refused = tt;
            there = λ there. (
              b.brings.there there,
              is_u ∙ ap (λ x. with_locks x (vm_slot g) (locks_of x (vm_slot g) + 1))
                  (b.ok.stays there),
              λ e. absurd cc,
            );
            absent = λ e. absurd cc;
            short = λ e. absurd cc;
            finds = subst (λ xs. Finds (refer i n) xs (Ok place)) (sym bytes) finds;
            within = subst (λ xs. (place.0 + place.1 ≤ length xs) × (n ≤ place.1)) (sym bytes) within;
            no_room = λ e. absurd cc;
            device = reads-on medium v w w refl (λ e. absurd cc) (λ e. absurd cc) b.brings.device;
          }
