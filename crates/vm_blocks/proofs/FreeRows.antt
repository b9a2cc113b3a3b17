-- A block that is freed does its row.
use Rattle.std.proofs.Common.{◌≡◌, ℕ, zero, suc, inl, ◌<◌, [], Some, None, Bool, true, false, refl, sym, ap, ◌∙◌, subst, arith}
use Rattle.std.specs.Prelude.{◌==◌, Ok, Err, nat_lt, if◌then◌else◌}
use Rattle.geos_terms.specs.Names.{vm}
use Rattle.geos_terms.specs.declared.refusal.Refusal.TheVariants as refusal
use Rattle.geos_calls.specs.Directories.{VmBlock}
use Rattle.geos_calls.specs.Legal.{IsLegalListed}
use Rattle.geos_calls.specs.Memory as memory
use Rattle.geos_calls.specs.Memory.{Memory}
use Rattle.geos_calls.specs.VmCalls.{without_listed}
use Rattle.geos_calls.proofs.LegalDirectories.{removed-legal}
use Rattle.geos_calls.proofs.Laws.{entry-other}
use Rattle.block_handles.specs.Layout.{IsLaidOut}
use Rattle.block_handles.specs.Names.{IsHandle}
use Rattle.block_handles.specs.Store.{Store, block_at, locks_of}
use Rattle.vm_file.specs.Device.{Medium}
use Rattle.vm_blocks.specs.declared.entries.Held.{Held}
use Rattle.vm_blocks.specs.View.{VmState, bytes_read, held_at, vm_slot}
use Rattle.vm_blocks.specs.Blocks.{without_held}
use Rattle.vm_blocks.specs.Tied.{IsTied}
use Rattle.vm_blocks.specs.Bring.{Drops, Keeps}
use Rattle.vm_blocks.specs.Matches.{IsListedAs}
use Rattle.vm_blocks.specs.FileOf.{IsMemoryOf}
use Rattle.vm_blocks.specs.DoesRow.{DoesRow}
use Rattle.vm_blocks.specs.ListedCalls.{free_listed}
use Rattle.vm_blocks.proofs.BringRows.{chosen, listed-told, unlisted-told}
use Rattle.vm_blocks.proofs.Changed.{memory-entry}
use Rattle.vm_blocks.proofs.Files.{IsListedIn}
use Rattle.vm_blocks.proofs.LockRows.{locks-told}
use Rattle.vm_blocks.proofs.Tables.{table-own}

-- nothing but the handle is mapped no more
group-gone : (g h : ℕ) (item : ℕ × ℕ) → g ≡ item.0 → (if g == h then 0 else g) ≡ (let x : ℕ × ℕ = if item.0 == h then (0, 0) else item in x).0
group-gone g h item same = on (item.0 == h) (ap (λ k. k == h) same)
  where
    on : (b : Bool) → (g == h) ≡ b → (if g == h then 0 else g) ≡ (let x : ℕ × ℕ = if b then (0, 0) else item in x).0
    on true e = rw e refl
    on false e = rw e same

item-gone : (g i h : ℕ) (item : ℕ × ℕ) → g ≡ item.0 → i ≡ item.1
    → (if g == h then 0 else i) ≡ (let x : ℕ × ℕ = if item.0 == h then (0, 0) else item in x).1
item-gone g i h item same one = on (item.0 == h) (ap (λ k. k == h) same)
  where
    on : (b : Bool) → (g == h) ≡ b → (if g == h then 0 else i) ≡ (let x : ℕ × ℕ = if b then (0, 0) else item in x).1
    on true e = rw e refl
    on false e = rw e one

module _ {D : Type 0} (medium : Medium D) (v : VmState D) (s : Store) (h : ℕ) (tied : IsTied medium v s) where
  -- no block has the handle
  pub free-unknown : held_at v h ≡ None → DoesRow medium (free_listed h) (Err refusal.BadHandle) v s v s
  free-unknown none m is = (
    chosen false false [],
    record { given = λ g. refl; device = λ g t. absurd cc },
    m,
    is,
    rw (unlisted-told medium v s h tied none m is) refl,
  )

  module _ (p : IsHandle h) (e : Held) (listed : held_at v h ≡ Some e) where
    locks-test : (m : Memory) → IsMemoryOf medium v s m → (b : Bool) → nat_lt 0 (locks_of s (vm_slot h)) ≡ b → nat_lt 0 (memory.locks_of m (vm h)) ≡ b
    locks-test m is b same = ap (nat_lt 0) (locks-told medium v s h tied m is) ∙ same

    -- the block is locked
    pub free-locked : nat_lt 0 (locks_of s (vm_slot h)) ≡ true → DoesRow medium (free_listed h) (Err refusal.Locked) v s v s
    free-locked some m is =
        let there = listed-told medium v s h tied p e listed m is in
        let locked = locks-test m is true some in
        (chosen false false [], record { given = λ g. refl; device = λ g t. absurd cc }, m, is, rw (there, locked) refl)

    -- it is not listed any more
    module _ (t : Store) (keeps : Keeps v s t h) where
      memory-without : (m : Memory) → IsMemoryOf medium v s m → IsMemoryOf medium (without_held v h) t (without_listed m h)
      memory-without m is =
          let w : VmState D = without_held v h in
          let gone : held_at w h ≡ None = table-own None None v.entries h tied.long p in
          let own : IsListedIn medium w t h None =
          subst (λ o. IsListedAs (medium.honest w.file.device) (bytes_read medium.image w.file h) o (block_at t (vm_slot h)) None)
          (sym gone) refl in
          let cur = m.file.cur in
          let maps = is.file.cur in
          memory-entry medium v s t m is h p tied keeps w refl (λ k ne. entry-other None None v.entries h k ne)
          (if cur.map_block == h then 0 else cur.map_block) (if cur.map_group == h then 0 else cur.map_group)
          (if cur.map_group == h then 0 else cur.map_item) None (
            ap (λ k. if k == h then 0 else k) maps.map_block,
            group-gone cur.map_group h v.map_item maps.map_group,
            item-gone cur.map_group cur.map_item h v.map_item maps.map_group maps.map_item,
          ) own
          (removed-legal IsLegalListed (λ (l : VmBlock). l.uid) cur is.file.legal.cur h)

      pub free-done : (w : VmState D) → nat_lt 0 (locks_of s (vm_slot h)) ≡ false → w ≡ without_held v h
          → DoesRow medium (free_listed h) (Ok tt) v s w t
      free-done w free same m is =
          let there = listed-told medium v s h tied p e listed m is in
          let unlocked = locks-test m is false free in (
            chosen false false [],
            record { given = λ g. refl; device = λ g t. absurd cc },
            without_listed m h,
            subst (λ x. IsMemoryOf medium x t (without_listed m h)) (sym same) (memory-without m is),
            rw (there, unlocked) refl,
          )

-- the same of what a call ensures
pub drops-keeps : {D : Type 0} (v : VmState D) (s t : Store) (h : ℕ) → IsLaidOut s → Drops s t h → Keeps v s t h
drops-keeps v s t h laid drops = record {
  each = λ slot ne. inl (drops.others slot ne, λ some. drops.places slot ne);
  laid =
      drops.laid laid;
  len = drops.len;
}

pub locked-test : (n : ℕ) → 0 < n → nat_lt 0 n ≡ true
locked-test n some = grind (arith, some)

pub free-test : (n : ℕ) → (0 < n → ⊥) → nat_lt 0 n ≡ false
free-test zero none = refl
free-test (suc n) none = absurd (none (omega arith))
