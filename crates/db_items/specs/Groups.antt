-- Groups, and how one is brought into memory.
use Rattle.std.specs.Prelude.{◌≡◌, ℕ, IsSomeAnd, OnOk, Result, Err}
use Rattle.geos_terms.specs.Names.{group_uid}
use Rattle.geos_terms.specs.declared.refusal.Refusal.{Refusal}
use Rattle.geos_terms.specs.declared.refusal.Refusal.TheVariants.{BadHandle, Disk, NoRoom, Short}
use Rattle.geos_calls.specs.VmCalls.{bring}
use Rattle.block_handles.specs.Store.{Store, IsThere}
use Rattle.vm_file.specs.Device.{Medium}
use Rattle.vm_blocks.specs.Bring.{Brought}
use Rattle.vm_blocks.specs.Bringing.{BringsBlock}
use Rattle.vm_blocks.specs.DoesRow.{DoesRow}
use Rattle.vm_blocks.specs.View.{VmState, held_at, vm_slot}

-- a handle names a group: a block of the file with the user ID of groups
abbrev pub IsGroup : {D : Type 0} → VmState D → ℕ → Type 0
IsGroup v g = IsSomeAnd (held_at v g) (λ e. e.uid ≡ group_uid)

-- a handle of no group is refused, and nothing changes
abbrev pub RefusesNoGroup : {D A : Type 0} → ℕ → Result A Refusal → VmState D → VmState D → Store → Store → Type 0
RefusesNoGroup g result v w s t = (IsGroup v g → ⊥) → (result ≡ Err BadHandle) × (w ≡ v) × (t ≡ s)

-- a call loads a group into memory as any block is loaded, or refuses it; it refuses a handle that is no
-- group. If the group is in memory, the call fails neither for lack of room nor because of the device.
pub record BringsGroup {D : Type 0} (medium : Medium D)
    (g : ℕ) (result : Result (Unit {0}) Refusal) (v w : VmState D) (s t : Store) : Type 0 where
  pub brings : BringsBlock medium NoRoom Disk g result v w s t
  pub no_group : RefusesNoGroup g result v w s t
  pub known : OnOk result (IsGroup v g)
  pub not_short : result ≡ Err Short → ⊥
  pub there : IsThere s (vm_slot g) → (result ≡ Err NoRoom → ⊥) × (result ≡ Err Disk → ⊥)
  pub row : IsGroup v g → DoesRow medium (bring g) result v s w t
  pub ok : OnOk result (Brought s t g)
