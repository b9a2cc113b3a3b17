-- What the model has of a named block, whosever it is.
use Rattle.std.proofs.Common.{◌≡◌, ◌≢◌, ℕ, Option, Some, None, refl, sym, ◌∙◌, subst, inl}
use Rattle.geos_terms.specs.declared.name.Name.{Name}
use Rattle.geos_terms.specs.declared.name.Owner.{Owner}
use Rattle.geos_terms.specs.declared.name.Owner.TheVariants.{Mem, Vm}
use Rattle.geos_terms.specs.Names.{mem, named}
use Rattle.geos_calls.specs.Legal.{IsLegalBlock}
use Rattle.geos_calls.specs.Memory as memory
use Rattle.geos_calls.specs.Memory.{Memory}
use Rattle.block_handles.specs.Layout.{IsLaidOut}
use Rattle.block_handles.specs.Names.{slot_of}
use Rattle.block_handles.specs.Store.{Block, Store, block_at, bytes_in, IsBlock, IsThere, locks_in}
use Rattle.block_handles.proofs.Laws.{handle_of_there, same-name}
use Rattle.vm_file.specs.Device.{Medium}
use Rattle.vm_blocks.specs.FileOf.{IsMemoryOf}
use Rattle.vm_blocks.specs.Bring.{Keeps}
use Rattle.vm_blocks.specs.Spelled.{block_in, spelled}
use Rattle.vm_blocks.specs.Tied.{IsTied}
use Rattle.vm_blocks.specs.View.{VmState}
use Rattle.vm_blocks.proofs.Changed.{own-legal}
use Rattle.vm_blocks.proofs.LockRows.{known}
use Rattle.chunk_calls.proofs.Named.{mem-known}

-- two names with blocks have one slot only where they are one
pub other-slot : (s : Store) (a b : Name) → IsLaidOut s → IsThere s (slot_of a) → IsThere s (slot_of b) → a ≢ b → slot_of a ≢ slot_of b
other-slot s a b laid one two ne same = ne (same-name a b (handle_of_there s s a refl laid one) (handle_of_there s s b refl laid two) same)

-- a slot without a block represents no block
pub view-absent : (o : Option Block) → (IsBlock o → ⊥) → block_in o ≡ None
view-absent None absent = refl
view-absent (Some b) absent = absurd (absent tt)

-- a slot with a block represents a block
pub view-there : (o : Option Block) → IsBlock o → block_in o ≡ Some (spelled (locks_in o) (bytes_in o))
view-there None there = absurd there
view-there (Some b) there = refl

module _ {D : Type 0} (medium : Medium D) (v : VmState D) (s : Store) (m : Memory) (tied : IsTied medium v s) (is : IsMemoryOf medium v s m) where
  -- one of global memory that is not
  pub block-absent : (h : ℕ) → (IsThere s (slot_of (mem h)) → ⊥) → memory.block_of m (mem h) ≡ None
  block-absent h absent = mem-known medium v s tied m is h ∙ view-absent (block_at s (slot_of (mem h))) absent

  -- a block of the file that is there is a legal one
  pub named-legal : (name : Name) → name.owner ≡ Vm → (b : Block) → block_at s (slot_of name) ≡ Some b → IsLegalBlock (spelled b.locks b.bytes)
  named-legal name of_file b there = on name.owner name.h of_file there
    where
      on : (owner : Owner) (h : ℕ) → owner ≡ Vm → block_at s (slot_of (named owner h)) ≡ Some b → IsLegalBlock (spelled b.locks b.bytes)
      on Mem h e th = absurd cc
      on Vm h e th =
          let k = known medium v s h tied (subst IsBlock (sym th) tt) in
          let keeps : Keeps v s s h = record { each = λ slot ne. inl (refl, λ some. refl); laid = tied.laid; len = refl } in
          (own-legal medium v s s m is h k.handle tied keeps k.held k.listed b th).block
