-- What the kernel tells of locks is what the model has.
use Rattle.std.proofs.Common.{◌≡◌, ℕ, Bool, None, sym, ap, ◌∙◌, inl, inr}
use Rattle.std.specs.Prelude.{◌↔◌, IsTrue, option_map}
use Rattle.geos_terms.specs.Names.{vm}
use Rattle.geos_calls.specs.Directories.{VmBlock}
use Rattle.geos_calls.specs.Memory.{Memory, locks_in, locks_of}
use Rattle.block_handles.specs.Store.{Store}
use Rattle.vm_file.specs.Device.{Medium}
use Rattle.vm_blocks.specs.FileOf.{IsMemoryOf}
use Rattle.vm_blocks.specs.Listed.{NoneLocked}
use Rattle.vm_blocks.specs.Tied.{IsTied}
use Rattle.vm_blocks.specs.View.{VmState}
use Rattle.vm_blocks.proofs.Tables.{handle-or, table-past}
use Rattle.chunk_calls.proofs.Named.{locks-known}

module _ {D : Type 0} (medium : Medium D) (v : VmState D) (s : Store) (m : Memory) (tied : IsTied medium v s) (is : IsMemoryOf medium v s m) where
  -- no block of the file is locked where the model has none locked
  pub none-known : NoneLocked s ↔ ((h : ℕ) → locks_of m (vm h) ≡ 0)
  none-known = (
    λ none h. elim (handle-or {X = ℕ} 0 h) [
      | inl p ↦ locks-known medium v s tied m is (vm h) ∙ none h p
      | inr past ↦ ap (λ l. locks_in (option_map (λ (x : VmBlock). x.block) l)) (table-past None m.file.cur.blocks h is.file.cur.handles past)
    ],
    λ none h p. sym (locks-known medium v s tied m is (vm h)) ∙ none h,
  )

  -- and so does the truth value of this test
  pub none-told : (b : Bool) → IsTrue b ↔ NoneLocked s → IsTrue b ↔ ((h : ℕ) → locks_of m (vm h) ≡ 0)
  none-told b same = (λ t. none-known.0 (same.0 t), λ none. same.1 (none-known.1 none))
