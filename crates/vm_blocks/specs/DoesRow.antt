-- When a call does what its row says.
use Rattle.std.specs.Prelude.{◌≡◌, true, false, [], Result}
use Rattle.geos_terms.specs.declared.refusal.Refusal.{Refusal}
use Rattle.geos_calls.specs.Effects.{Call, Choice, effect_of, outcome}
use Rattle.geos_calls.specs.Memory.{Memory}
use Rattle.block_handles.specs.Store.{Store}
use Rattle.vm_file.specs.Device.{Medium, Rose}
use Rattle.vm_blocks.specs.View.{VmState}
use Rattle.vm_blocks.specs.FileOf.{IsMemoryOf}

-- what came from outside at a call: an honest device returns
-- no other contents, and refuses only if a failure was counted
pub record IsChosen {D : Type 0} (medium : Medium D) (old new : D) (choice : Choice) : Type 0 where
  pub given : medium.honest old → choice.given ≡ []
  pub device : medium.honest old → choice.device ≡ true → Rose (medium.failed old) (medium.failed new)

-- a call returns, and leaves memory, as its row prescribes, in each memory of the model that is related to the state
abbrev pub DoesRow : {D : Type 0} → Medium D → {A : Type 0} → Call A → Result A Refusal → VmState D → Store → VmState D → Store → Type 0
DoesRow medium call result v s w t =
    (m : Memory) → IsMemoryOf medium v s m
    → (choice : Choice) × IsChosen medium v.file.device w.file.device choice × (n : Memory) × IsMemoryOf medium w t n
    × (outcome (effect_of call choice m) ≡ (result, n))

-- a call that has no part of the device does so: nothing is given, and the device refused nowhere
abbrev pub DoesRowAlone : {D : Type 0} → Medium D → {A : Type 0} → Call A → Result A Refusal → VmState D → Store → VmState D → Store → Type 0
DoesRowAlone medium call result v s w t =
    (m : Memory) → IsMemoryOf medium v s m
    → (choice : Choice) × ((choice.given ≡ []) × (choice.device ≡ false)) × (n : Memory) × IsMemoryOf medium w t n
    × (outcome (call choice m) ≡ (result, n))
