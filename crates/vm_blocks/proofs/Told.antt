-- The model tells of listed blocks, and of what is mapped, what the table tells.
use Rattle.std.proofs.Common.{◌≡◌, ◌≢◌, ℕ, zero, suc, ◌+◌, ◌-◌, ◌<◌, List, [], length, drop, get_or, Option, Some, None, true, false, refl, sym, ap, ◌∙◌, subst, arith, inl, inr, length-drop}
use Rattle.std.specs.Prelude.{◌==◌, Result, Ok, IsSomeAnd, nat_lt, option_map, unwrap_or}
use Rattle.std.specs.List.{position_or_len}
use Rattle.std.proofs.lemmas.Bool.Decides.{nat_tests}
use Rattle.std.proofs.lemmas.List.{get_or-drop}
use Rattle.std.proofs.lemmas.List.Sums.{position_or_len_is}
use Rattle.geos_terms.specs.declared.refusal.Refusal.{Refusal}
use Rattle.geos_calls.specs.Directories.{VmBlock}
use Rattle.geos_terms.specs.Names.{group_uid}
use Rattle.geos_calls.specs.Directories as model
use Rattle.geos_calls.specs.Effects.{Call, effect_of, outcome}
use Rattle.geos_calls.specs.ItemCalls.{igetmap}
use Rattle.geos_calls.specs.Memory.{Memory, is_marked, listed_at}
use Rattle.geos_calls.specs.VmCalls.{found_above, has_uid, vfind, vgetmap, vuid}
use Rattle.block_handles.specs.Store.{Block, Store, block_at}
use Rattle.vm_file.specs.Device.{Medium}
use Rattle.vm_file.specs.State.{FileState}
use Rattle.vm_blocks.specs.declared.entries.Held.{Held}
use Rattle.vm_blocks.specs.View.{VmState, bytes_read, held_at, vm_slot}
use Rattle.vm_blocks.specs.Blocks.{HasUid, IsNextWith, NoneWith, is_marked_in, uid_of}
use Rattle.vm_blocks.specs.Tied.{IsTied, TiedAt}
use Rattle.vm_blocks.specs.Matches.{IsListedAs}
use Rattle.vm_blocks.specs.FileOf.{IsMemoryOf}
use Rattle.vm_blocks.specs.DoesRow.{DoesRow}
use Rattle.vm_blocks.specs.Refused.{of_uid}
use Rattle.vm_blocks.proofs.BringRows.{chosen}
use Rattle.vm_blocks.proofs.Tables.{handle-or, table-past}

-- One block

uid-one : (good : Type 0) (read : List ℕ) (o : Option Held) (b : Option Block) (l : Option VmBlock) → IsListedAs good read o b l
    → option_map (λ (x : VmBlock). x.uid) l ≡ option_map uid_of o
uid-one good read None b l is = ap (option_map (λ (x : VmBlock). x.uid)) is
uid-one good read (Some e) (Some b) l is = ap (option_map (λ (x : VmBlock). x.uid)) is
uid-one good read (Some e) None None is = absurd is
uid-one good read (Some e) None (Some l) is = ap Some is.uid

mark-one : {D : Type 0} (medium : Medium D) (f : FileState D) (h : ℕ) (good : Type 0) (read : List ℕ) (o : Option Held)
    (b : Option Block) (l : Option VmBlock) → TiedAt medium f h o b → IsListedAs good read o b l
    → model.is_marked_in l ≡ is_marked_in o
mark-one medium f h good read None b l tied is = ap model.is_marked_in is
mark-one medium f h good read (Some e) (Some b) l tied is = ap model.is_marked_in is
mark-one medium f h good read (Some e) None None tied is = absurd is
mark-one medium f h good read (Some e) None (Some l) tied is = is.marked ∙ sym tied.clean

uid-of-some : (P : ℕ → Type 0) (o : Option Held) → IsSomeAnd o (λ e. P e.uid) → IsSomeAnd (option_map uid_of o) P
uid-of-some P None some = some
uid-of-some P (Some e) some = some

of-some-uid : (P : ℕ → Type 0) (o : Option Held) → IsSomeAnd (option_map uid_of o) P → IsSomeAnd o (λ e. P e.uid)
of-some-uid P None some = some
of-some-uid P (Some e) some = some

less-test : (a b : ℕ) → a < b → nat_lt a b ≡ true
less-test a b l = grind (arith, l)

same-test : (a : ℕ) → nat_lt a a ≡ false
same-test a = grind arith

module _ {D : Type 0} (medium : Medium D) (v : VmState D) (s : Store) (tied : IsTied medium v s) (m : Memory) (is : IsMemoryOf medium v s m) where
  -- the user ID that is listed under a number, if one is
  pub uid-told : (h : ℕ) → option_map (λ (x : VmBlock). x.uid) (listed_at m h) ≡ option_map uid_of (held_at v h)
  uid-told h = elim (handle-or {X = ℕ} 0 h) [
    | inl p ↦ uid-one (medium.honest v.file.device) (bytes_read medium.image v.file h) (held_at v h) (block_at s (vm_slot h))
        (listed_at m h) (is.file.cur.each h p)
    | inr past ↦ ap (option_map (λ (x : VmBlock). x.uid)) (table-past None m.file.cur.blocks h is.file.cur.handles past)
        ∙ sym (ap (option_map uid_of) (table-past None v.entries h tied.long past))
  ]

  -- it is so in the model as it is in the table
  pub uid-some : (P : ℕ → Type 0) (h : ℕ) → IsSomeAnd (held_at v h) (λ e. P e.uid) → IsSomeAnd (option_map (λ (x : VmBlock). x.uid) (listed_at m h)) P
  uid-some P h some = subst (λ o. IsSomeAnd o P) (sym (uid-told h)) (uid-of-some P (held_at v h) some)

  pub some-uid : (P : ℕ → Type 0) (h : ℕ) → IsSomeAnd (option_map (λ (x : VmBlock). x.uid) (listed_at m h)) P → IsSomeAnd (held_at v h) (λ e. P e.uid)
  some-uid P h some = of-some-uid P (held_at v h) (subst (λ o. IsSomeAnd o P) (uid-told h) some)

  -- whether it is marked
  pub mark-told : (h : ℕ) → is_marked m h ≡ is_marked_in (held_at v h)
  mark-told h = elim (handle-or {X = ℕ} 0 h) [
    | inl p ↦ mark-one medium v.file h (medium.honest v.file.device) (bytes_read medium.image v.file h) (held_at v h)
        (block_at s (vm_slot h)) (listed_at m h) (tied.each h p) (is.file.cur.each h p)
    | inr past ↦ ap model.is_marked_in (table-past None m.file.cur.blocks h is.file.cur.handles past)
        ∙ sym (ap is_marked_in (table-past None v.entries h tied.long past))
  ]

  -- Blocks with a user ID

  module _ (uid : ℕ) where
    has-told : (h : ℕ) → HasUid v uid h → has_uid uid (listed_at m h) ≡ true
    has-told h has = on (listed_at m h) (uid-some (λ u. u ≡ uid) h has)
      where
        on : (l : Option VmBlock) → IsSomeAnd (option_map (λ (x : VmBlock). x.uid) l) (λ u. u ≡ uid) → has_uid uid l ≡ true
        on None some = absurd some
        on (Some l) some = grind (arith, nat_tests, some)

    hasnt-told : (h : ℕ) → (HasUid v uid h → ⊥) → has_uid uid (listed_at m h) ≡ false
    hasnt-told h none = on (listed_at m h) (λ some. none (some-uid (λ u. u ≡ uid) h some))
      where
        on : (l : Option VmBlock) → (IsSomeAnd (option_map (λ (x : VmBlock). x.uid) l) (λ u. u ≡ uid) → ⊥) → has_uid uid l ≡ false
        on None none = refl
        on (Some l) none = let ne : l.uid ≢ uid = none in grind (arith, nat_tests, ne)

    module _ (start : ℕ) where
      abbrev behind : List (Option VmBlock)
      behind = drop start m.file.cur.blocks

      behind-at : (j : ℕ) → get_or behind j None ≡ listed_at m (start + suc j)
      behind-at j = let e : suc (start + j) ≡ start + suc j = omega arith in get_or-drop start m.file.cur.blocks j None ∙ ap (listed_at m) e

      behind-long : length behind ≡ 1024 - start
      behind-long = length-drop start m.file.cur.blocks ∙ ap (λ n. n - start) is.file.cur.handles

      found-told : (r : ℕ) → IsNextWith v start uid r → unwrap_or (found_above start uid m.file.cur.blocks) 0 ≡ r
      found-told r next =
          let above = next.above in
          let low = next.handle.1 in
          let i : ℕ = r - start - 1 in
          let r_is : start + suc i ≡ r = omega (arith, above) in
          let inside : i < length behind = omega (arith, behind-long, above, low) in
          let here : has_uid uid (get_or behind i None) ≡ true = ap (has_uid uid) (behind-at i)
          ∙ ap (λ k. has_uid uid (listed_at m k)) r_is ∙ has-told r next.has in
          let before : (j : ℕ) → j < i → has_uid uid (get_or behind j None) ≡ false =
          (λ j l. ap (has_uid uid) (behind-at j)
          ∙ hasnt-told (start + suc j) (next.first (start + suc j) (omega arith) (omega (arith, l, r_is)))) in
          let first : position_or_len (has_uid uid) behind ≡ i = position_or_len_is (has_uid uid) behind i None
          (omega (arith, inside)) before (λ l. here) in
          let within : nat_lt i (length behind) ≡ true = less-test i (length behind) inside in
          rw (first, within) r_is

      none-told : NoneWith v start uid → unwrap_or (found_above start uid m.file.cur.blocks) 0 ≡ 0
      none-told none =
          let n : ℕ = length behind in
          let before : (j : ℕ) → j < n → has_uid uid (get_or behind j None) ≡ false =
          (λ j l. ap (has_uid uid) (behind-at j) ∙ hasnt-told (start + suc j) (none (start + suc j) (omega arith))) in
          let last : position_or_len (has_uid uid) behind ≡ n = position_or_len_is (has_uid uid) behind n None
          (omega arith) before (λ l. absurd (omega (arith, l))) in
          let past : nat_lt n n ≡ false = same-test n in
          rw (last, past) refl

-- Rows that tell

module _ {D : Type 0} (medium : Medium D) (v : VmState D) (s : Store) (tied : IsTied medium v s) where
  -- a call that nothing comes into from outside, and that leaves memory as it was
  tells-row : {A : Type 0} (call : Call A) (r : Result A Refusal)
      → ((m : Memory) → IsMemoryOf medium v s m → outcome (effect_of call (chosen false false []) m) ≡ (r, m)) → DoesRow medium call r v s v s
  tells-row call r same m is = (chosen false false [], record { given = λ g. refl; device = λ g t. absurd cc }, m, is, same m is)

  pub uid-row : (h : ℕ) → DoesRow medium (vuid h) (of_uid (option_map uid_of (held_at v h))) v s v s
  uid-row h = tells-row (vuid h) (of_uid (option_map uid_of (held_at v h)))
      (λ m is. on m (held_at v h) (listed_at m h) refl (uid-told medium v s tied m is h))
    where
      on : (m : Memory) (o : Option Held) (l : Option VmBlock) → listed_at m h ≡ l → option_map (λ (x : VmBlock). x.uid) l ≡ option_map uid_of o
          → outcome (effect_of (vuid h) (chosen false false []) m) ≡ (of_uid (option_map uid_of o), m)
      on m None None is told = rw is refl
      on m None (Some l) is told = absurd cc
      on m (Some e) None is told = absurd cc
      on m (Some e) (Some l) is told = let same : l.uid ≡ e.uid = cc in rw is (ap (λ u. (Ok u, m)) same)

  pub map-row : DoesRow medium vgetmap (Ok v.map_block) v s v s
  map-row = tells-row vgetmap (Ok v.map_block) (λ m is. ap (λ u. (Ok u, m)) is.file.cur.map_block)

  pub map-item-row : DoesRow medium igetmap (Ok v.map_item) v s v s
  map-item-row = tells-row igetmap (Ok v.map_item)
      (λ m is. (let group = is.file.cur.map_group in let item = is.file.cur.map_item in λ k. (Ok (group k, item k), m)))

  pub find-row : (start uid r : ℕ) → uid ≢ group_uid → (r ≢ 0 → IsNextWith v start uid r) → (r ≡ 0 → NoneWith v start uid)
      → DoesRow medium (vfind start uid) (Ok r) v s v s
  find-row start uid r other found none = tells-row (vfind start uid) (Ok r) (λ m is.
      let free : (uid == group_uid) ≡ false = grind (arith, nat_tests, other) in
      rw free (ap (λ k. (Ok k, m)) (on m is r found none)))
    where
      on : (m : Memory) (is : IsMemoryOf medium v s m) (k : ℕ) → (k ≢ 0 → IsNextWith v start uid k)
          → (k ≡ 0 → NoneWith v start uid) → unwrap_or (found_above start uid m.file.cur.blocks) 0 ≡ k
      on m is zero found none = none-told medium v s tied m is uid start (none refl)
      on m is (suc k) found none = found-told medium v s tied m is uid start (suc k) (found (λ z. omega (arith, z)))
