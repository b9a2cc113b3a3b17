-- Calls on groups do their rows.
use Rattle.std.proofs.Common.{◌≡◌, ◌≢◌, ◌∙◌, ℕ, [], ◌∷◌, true, false, refl, ap, arith}
use Rattle.std.specs.Prelude.{◌==◌, Result, Err}
use Rattle.std.proofs.lemmas.Bool.Decides.{nat_tests}
use Rattle.geos_terms.specs.declared.refusal.Refusal.{Refusal}
use Rattle.geos_terms.specs.declared.refusal.Refusal.TheVariants as refusal
use Rattle.geos_terms.specs.Names.{vm}
use Rattle.geos_terms.specs.Refusals.{first_refusal}
use Rattle.geos_calls.specs.Calls.{is_in_use}
use Rattle.geos_calls.specs.Effects.{come_to, unchanged}
use Rattle.geos_calls.specs.Given.{given_memory}
use Rattle.geos_calls.specs.ItemCalls.{gfree, isetmap, no_group}
use Rattle.geos_calls.specs.Memory.{is_group}
use Rattle.geos_calls.specs.VmCalls.{free_listed, no_listed, without_listed}
use Rattle.block_handles.specs.Store.{Store}
use Rattle.vm_file.specs.Device.{Medium}
use Rattle.vm_blocks.specs.DoesRow.{DoesRow}
use Rattle.vm_blocks.specs.Tied.{IsTied}
use Rattle.vm_blocks.specs.View.{VmState}
use Rattle.vm_blocks.proofs.BringRows.{chosen}
use Rattle.db_items.specs.Groups.{IsGroup}
use Rattle.db_items.proofs.Told.{group-listed, group-told, is_group-given, no_group-told}

module _ {D : Type 0} (medium : Medium D) (v : VmState D) (s : Store) (g : ℕ) (tied : IsTied medium v s) where
  -- to free a group is to free it as a block
  pub free-row : IsGroup v g → (w : VmState D) (t : Store) (r : Result (Unit {0}) Refusal) → DoesRow medium (free_listed g) r v s w t
      → DoesRow medium (gfree g) r v s w t
  free-row group w t r row m is =
      let b = row m is in
      let n = given_memory b.0.given m in
      let one : is_group n g ≡ true = is_group-given b.0.given m g ∙ group-told medium v s tied m is g group in
      let tests : first_refusal (no_group n g ∷ is_in_use n (vm g) ∷ []) ≡ first_refusal (no_listed n g ∷ is_in_use n (vm g) ∷ []) =
      (let listed = group-listed n g one in rw (one, listed) refl) in
      (b.0, b.1, b.2, b.3, ap (λ o. come_to {A = Unit {0}} o (unchanged n) tt (without_listed n g)) tests ∙ b.4)

  pub free_no_group-row : (IsGroup v g → ⊥) → DoesRow medium (gfree g) (Err refusal.BadHandle) v s v s
  free_no_group-row none m is =
      let test = no_group-told medium v s tied m is g none in
      (chosen false false [], record { given = λ good. refl; device = λ good fails. absurd cc }, m, is, rw test refl)

-- The map item

no-zero : (g : ℕ) → g ≢ 0 → (g == 0) ≡ false
no-zero g ne = grind (arith, nat_tests, ne)

module _ {D : Type 0} (medium : Medium D) (v : VmState D) (s : Store) (g i : ℕ) (tied : IsTied medium v s) where
  pub map_no_group-row : g ≢ 0 → (IsGroup v g → ⊥) → DoesRow medium (isetmap g i) (Err refusal.BadHandle) v s v s
  map_no_group-row some none m is =
      let test = no_group-told medium v s tied m is g none in
      let other = no-zero g some in
      (chosen false false [], record { given = λ good. refl; device = λ good fails. absurd cc }, m, is, rw (other, test) refl)

  pub map_range-row : g ≡ 0 → i ≢ 0 → DoesRow medium (isetmap g i) (Err refusal.Range) v s v s
  map_range-row zero some m is =
      let other = no-zero i some in
      (chosen false false [], record { given = λ good. refl; device = λ good fails. absurd cc }, m, is, rw (zero, other) refl)
