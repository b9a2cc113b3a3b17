-- Calls that do their rows if nothing is refused from outside, or only room; and the kernel calls that follow from
-- these rows.
use Rattle.std.proofs.Common.{◌≡◌, refl, inl}
use Rattle.std.specs.Prelude.{Result}
use Rattle.geos_terms.specs.declared.refusal.Refusal.{Refusal}
use Rattle.geos_calls.specs.Effects.{Call, Choice, effect_of, outcome}
use Rattle.geos_calls.specs.Memory.{Memory}
use Rattle.geos_calls.specs.VmFile.{VmFile}
use Rattle.geos_calls.proofs.Laws.{willing, cramped}
use Rattle.block_handles.specs.Store.{Store}
use Rattle.vm_file.specs.Device.{Medium}
use Rattle.vm_blocks.specs.DoesRow.{DoesRow, IsChosen}
use Rattle.vm_blocks.specs.FileOf.{IsMemoryOf}
use Rattle.vm_blocks.specs.View.{VmState}
use Rattle.geos_kernel.specs.View.{core_of, memory_of, IsFileOf}
use Rattle.geos_kernel.specs.Kernel.{Calls}
use Rattle.geos_kernel.specs.Spans.{SpansStay}
use Rattle.geos_kernel.proofs.Seen.{row-answers}

module _ {D : Type 0} (medium : Medium D) {A : Type 0} (call : Call A) (result : Result A Refusal) (v : VmState D) (s t : Store) where
  willing-chosen : (old new : D) → IsChosen medium old new willing
  willing-chosen old new = record { given = λ g. refl; device = λ g refused. absurd cc }

  cramped-chosen : (old new : D) → IsChosen medium old new cramped
  cramped-chosen old new = record { given = λ g. refl; device = λ g refused. absurd cc }

  -- of a call that is refused nothing from outside
  pub does-willing : ((m : Memory) → IsMemoryOf medium v s m → (n : Memory) × IsMemoryOf medium v t n
      × (outcome (effect_of call willing m) ≡ (result, n))) → DoesRow medium call result v s v t
  does-willing does m is = let d = does m is in (willing, willing-chosen v.file.device v.file.device, d.0, d.1, d.2)

  -- of a call that is refused room
  pub does-cramped : ((m : Memory) → IsMemoryOf medium v s m → (n : Memory) × IsMemoryOf medium v t n
      × (outcome (effect_of call cramped m) ≡ (result, n))) → DoesRow medium call result v s v t
  does-cramped does m is = let d = does m is in (cramped, cramped-chosen v.file.device v.file.device, d.0, d.1, d.2)

  -- a call that asks the device nothing
  pub row-calls : DoesRow medium call result v s v t
      → ((f : VmFile) → IsFileOf (medium.honest v.file.device) (core_of medium v s) f → (choice : Choice)
      → SpansStay (core_of medium v s) (core_of medium v t) f (effect_of call choice (memory_of (core_of medium v s) f)).stale)
      → Calls (medium.honest v.file.device) call result (core_of medium v s) (core_of medium v t)
  row-calls row spans = record { answers = row-answers medium call result v s v t row (λ g. g) (λ g. inl refl); spans = spans }

-- a call that tells something, and changes nothing
module _ {D : Type 0} (medium : Medium D) {A : Type 0} (call : Call A) (result : Result A Refusal) (v : VmState D) (s : Store) where
  pub telling-calls : ((m : Memory) → IsMemoryOf medium v s m → outcome (effect_of call willing m) ≡ (result, m))
      → Calls (medium.honest v.file.device) call result (core_of medium v s) (core_of medium v s)
  telling-calls tells = row-calls medium call result v s s (does-willing medium call result v s s (λ m is. (m, is, tells m is)))
      (λ f tied choice span ref stands fresh. stands)
