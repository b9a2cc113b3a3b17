-- What is mapped by calls is what their rows map.
use Rattle.std.proofs.Common.{◌≡◌, ◌≢◌, ℕ, zero, suc, ◌<◌, [], Option, Some, None, true, false, not, ◌&&◌, refl, arith}
use Rattle.std.specs.Prelude.{◌==◌, Ok, IsSomeAnd, is_none, option_map}
use Rattle.std.proofs.lemmas.Bool.Decides.{nat_tests}
use Rattle.geos_calls.specs.Directories.{VmBlock, Directory, uid_in}
use Rattle.geos_terms.specs.Names.{group_uid}
use Rattle.geos_calls.specs.ItemCalls.{isetmap}
use Rattle.geos_calls.specs.Legal.{IsCurrent}
use Rattle.geos_calls.specs.Memory.{Memory, is_group, listed_at, with_cur}
use Rattle.geos_calls.specs.VmCalls.{vsetmap}
use Rattle.block_handles.specs.Store.{Store}
use Rattle.vm_file.specs.Device.{Medium}
use Rattle.vm_blocks.specs.View.{VmState, held_at}
use Rattle.vm_blocks.specs.Tied.{IsTied}
use Rattle.vm_blocks.specs.FileOf.{IsCurrentOf}
use Rattle.vm_blocks.specs.DoesRow.{DoesRow}
use Rattle.vm_blocks.proofs.BringRows.{chosen}
use Rattle.vm_blocks.proofs.Files.{file-cur}
use Rattle.vm_blocks.proofs.Told.{uid-some}

-- the tests of rows

a-block : (l : Option VmBlock) → IsSomeAnd (option_map (λ (x : VmBlock). x.uid) l) (λ u. u ≢ group_uid) → (is_none l ≡ false)
    × ((uid_in l == group_uid) ≡ false)
a-block None some = absurd some
a-block (Some l) other = (refl, grind (arith, nat_tests, other))

a-group : (l : Option VmBlock) → IsSomeAnd (option_map (λ (x : VmBlock). x.uid) l) (λ u. u ≡ group_uid) → (uid_in l == group_uid) ≡ true
a-group None some = absurd some
a-group (Some l) same = grind (arith, nat_tests, same)

no-zero : (k : ℕ) → (suc k == 0) ≡ false
no-zero k = grind (arith, nat_tests)

module _ {D : Type 0} (medium : Medium D) (v : VmState D) (s : Store) (tied : IsTied medium v s) where
  pub set-map-row : (h : ℕ) → (h ≢ 0 → IsSomeAnd (held_at v h) (λ e. e.uid ≢ group_uid))
      → DoesRow medium (vsetmap h) (Ok tt) v s (record v { map_block = h }) s
  set-map-row h block m is =
      let cur : Directory VmBlock = record m.file.cur { map_block = h } in
      let maps = is.file.legal.cur.maps in
      let listed : h ≢ 0 → IsSomeAnd (option_map (λ (x : VmBlock). x.uid) (listed_at m h)) (λ u. u ≢ group_uid) =
      (λ some. uid-some medium v s tied m is (λ u. u ≢ group_uid) h (block some)) in
      let t = tests m h listed in
      let w : VmState D = record v { map_block = h } in
      let now : IsCurrentOf medium.image medium.honest w s cur =
      record {
        handles = is.file.cur.handles;
        each = is.file.cur.each;
        map_block = refl;
        map_group =
            is.file.cur.map_group;
        map_item = is.file.cur.map_item;
      } in
      let legal : IsCurrent cur = record {
        handles = is.file.legal.cur.handles;
        blocks = is.file.legal.cur.blocks;
        maps = record { map_block = listed; map_group = maps.map_group; no_item = maps.no_item; word = maps.word };
      } in (
        chosen false false [],
        record { given = λ g. refl; device = λ g t. absurd cc },
        with_cur m cur,
        record { blocks = is.blocks; file = file-cur medium v w s s m.file cur refl now legal is.file; region = is.region; handles = is.handles },
        rw (t.0, t.1) refl,
      )
    where
      tests : (m : Memory) (k : ℕ) → (k ≢ 0 → IsSomeAnd (option_map (λ (x : VmBlock). x.uid) (listed_at m k)) (λ u. u ≢ group_uid))
          → ((not (k == 0) && is_none (listed_at m k)) ≡ false) × (is_group m k ≡ false)
      tests m zero listed = (refl, refl)
      tests m (suc k) listed = let t = a-block (listed_at m (suc k)) (listed (λ z. omega (arith, z))) in (rw (no-zero k, t.0) refl, t.1)

  pub put-map-item-row : (g i : ℕ) → i < 65536 → (g ≢ 0 → IsSomeAnd (held_at v g) (λ e. e.uid ≡ group_uid))
      → (g ≡ 0 → i ≡ 0) → DoesRow medium (isetmap g i) (Ok tt) v s (record v { map_item = (g, i) }) s
  put-map-item-row g i word group no_item m is =
      let cur : Directory VmBlock = record m.file.cur { map_group = g; map_item = i } in
      let maps = is.file.legal.cur.maps in
      let listed : g ≢ 0 → IsSomeAnd (option_map (λ (x : VmBlock). x.uid) (listed_at m g)) (λ u. u ≡ group_uid) =
      (λ some. uid-some medium v s tied m is (λ u. u ≡ group_uid) g (group some)) in
      let t = tests m g listed no_item in
      let w : VmState D = record v { map_item = (g, i) } in
      let now : IsCurrentOf medium.image medium.honest w s cur =
      record { handles = is.file.cur.handles; each = is.file.cur.each; map_block = is.file.cur.map_block; map_group = refl; map_item = refl } in
      let legal : IsCurrent cur = record {
        handles = is.file.legal.cur.handles;
        blocks = is.file.legal.cur.blocks;
        maps = record { map_block = maps.map_block; map_group = listed; no_item = no_item; word = word };
      } in (
        chosen false false [],
        record { given = λ g. refl; device = λ g t. absurd cc },
        with_cur m cur,
        record { blocks = is.blocks; file = file-cur medium v w s s m.file cur refl now legal is.file; region = is.region; handles = is.handles },
        rw (t.0, t.1) refl,
      )
    where
      tests : (m : Memory) (k : ℕ) → (k ≢ 0 → IsSomeAnd (option_map (λ (x : VmBlock). x.uid) (listed_at m k)) (λ u. u ≡ group_uid))
          → (k ≡ 0 → i ≡ 0) → ((not (k == 0) && not (is_group m k)) ≡ false) × (((k == 0) && not (i == 0)) ≡ false)
      tests m zero listed none = (refl, rw (none refl) refl)
      tests m (suc k) listed none = let t = a-group (listed_at m (suc k)) (listed (λ z. omega (arith, z))) in
          (rw (no-zero k, t) refl, rw (no-zero k) refl)
