-- What the model has of a named block that is in memory.
use Rattle.std.proofs.Common.{◌≡◌, ℕ, zero, suc, ◌-◌, ◌<◌, length, length-take, map, take, Option, Some, None, refl, sym, ap, ◌∙◌, arith, inl, inr, subst}
use Rattle.std.specs.Prelude.{◌⊎◌, option_map}
use Rattle.std.proofs.lemmas.Bool.Decides.{nat_tests}
use Rattle.std.proofs.lemmas.List.{get_or-map, get_or-take, get_or_past, length-map}
use Rattle.geos_terms.specs.declared.name.Name.{Name}
use Rattle.geos_terms.specs.declared.name.Owner.{Owner}
use Rattle.geos_terms.specs.declared.name.Owner.TheVariants.{Mem, Vm}
use Rattle.geos_terms.specs.Names.{named, mem}
use Rattle.geos_calls.specs.Directories.{VmBlock}
use Rattle.geos_calls.specs.Memory as model
use Rattle.geos_calls.specs.Memory.{Memory}
use Rattle.block_handles.specs.Layout.{IsLaidOut}
use Rattle.block_handles.specs.Names.{IsHandle, slot_of}
use Rattle.block_handles.specs.Store as store
use Rattle.block_handles.specs.Store.{Block, Store, block_at, IsThere}
use Rattle.block_handles.proofs.Laws.{slot_of-handle}
use Rattle.vm_file.specs.Device.{Medium}
use Rattle.vm_blocks.specs.View.{VmState}
use Rattle.vm_blocks.specs.Tied.{IsTied}
use Rattle.vm_blocks.specs.Bring.{Keeps}
use Rattle.vm_blocks.specs.Spelled.{block_in, spelled}
use Rattle.vm_blocks.specs.FileOf.{IsMemoryOf}
use Rattle.vm_blocks.proofs.Changed.{listed-there}
use Rattle.vm_blocks.proofs.LockRows.{known, locks-told}
use Rattle.vm_blocks.proofs.Slots.{some-block}
use Rattle.vm_blocks.proofs.Tables.{handle-or, table-past}
use Rattle.chunk_calls.specs.Heaps.{chunks_at, size_at}

-- Slots of names

-- the slot of a handle of global memory is one less
pub slot_of-mem : (h : ℕ) → IsHandle h → slot_of (mem h) ≡ h - 1
slot_of-mem h q = omega (arith, slot_of-handle Mem h q)

-- what is no handle has no slot
pub slot_of-past : (owner : Owner) (h : ℕ) → (h ≡ 0) ⊎ (1024 < h) → slot_of (named owner h) ≡ 2048
slot_of-past owner h (inl none) = ap (λ k. slot_of (named owner k)) none
slot_of-past owner h (inr past) = grind (arith, nat_tests)

pub slotless : (s : Store) → IsLaidOut s → (owner : Owner) (h : ℕ) → (h ≡ 0) ⊎ (1024 < h) → block_at s (slot_of (named owner h)) ≡ None
slotless s laid owner h past = ap (block_at s) (slot_of-past owner h past) ∙ get_or_past s.blocks 2048 None (omega (arith, laid.slots))

-- under each handle, the slots of global memory encode what the handle's slot has
pub slots-told : (s : Store) → IsLaidOut s → (h : ℕ) → model.at_handle None (map block_in (take 1024 s.blocks)) h ≡ block_in
    (block_at s (slot_of (mem h)))
slots-told s laid h = elim (handle-or {X = ℕ} 0 h) [
  | inl p ↦ in_slot h p
  | inr past ↦ table-past None (map block_in (take 1024 s.blocks)) h long past
      ∙ sym (ap block_in (slotless s laid Mem h past))
]
  where
    long : length (map block_in (take 1024 s.blocks)) ≡ 1024
    long = omega (arith, length-map (take 1024 s.blocks) block_in, length-take 1024 s.blocks, laid.slots)

    in_slot : (k : ℕ) → IsHandle k → model.at_handle None (map block_in (take 1024 s.blocks)) k ≡ block_in (block_at s (slot_of (mem k)))
    in_slot zero p = absurd (omega (arith, p.0))
    in_slot (suc k) p =
        let i : slot_of (mem (suc k)) ≡ k = slot_of-mem (suc k) p ∙ omega arith in
        let less : k < length (take 1024 s.blocks) = omega (arith, p.1, length-take 1024 s.blocks, laid.slots) in
        get_or-map block_in (take 1024 s.blocks) k None None less ∙ ap block_in (get_or-take 1024 s.blocks k None (omega (arith, p.1)))
        ∙ sym (ap (λ j. block_in (block_at s j)) i)

-- how often a block of a slot is locked
pub locks-spelled : (o : Option Block) → model.locks_in (block_in o) ≡ store.locks_in o
locks-spelled None = refl
locks-spelled (Some b) = refl

module _ {D : Type 0} (medium : Medium D) (v : VmState D) (s : Store) (tied : IsTied medium v s) (m : Memory) (is : IsMemoryOf medium v s m) where
  -- under a handle of global memory, the model has what the slot encodes, or nothing
  pub mem-known : (h : ℕ) → model.block_of m (mem h) ≡ block_in (block_at s (slot_of (mem h)))
  mem-known h = ap (λ bs. model.at_handle None bs h) is.blocks ∙ slots-told s tied.laid h

  -- how often a block is locked, whosever it is
  pub locks-known : (name : Name) → model.locks_of m name ≡ store.locks_of s (slot_of name)
  locks-known name = at name.owner name.h
    where
      at : (owner : Owner) (h : ℕ) → model.locks_in (model.owned_block m owner h) ≡ store.locks_of s (slot_of (named owner h))
      at Mem h = ap model.locks_in (mem-known h) ∙ locks-spelled (block_at s (slot_of (mem h)))
      at Vm h = locks-told medium v s h tied m is

  -- the model has what a block in memory encodes
  pub block-known : (name : Name) (b : Block) → block_at s (slot_of name) ≡ Some b → model.block_of m name ≡ Some (spelled b.locks b.bytes)
  block-known name b there = at name.owner name.h there
    where
      at : (owner : Owner) (h : ℕ) → block_at s (slot_of (named owner h)) ≡ Some b → model.owned_block m owner h ≡ Some (spelled b.locks b.bytes)
      at Mem h there = mem-known h ∙ ap block_in there
      at Vm h there =
          let k = known medium v s h tied (subst store.IsBlock (sym there) tt) in
          let keeps : Keeps v s s h = record { each = λ slot ne. inl (refl, λ some. refl); laid = tied.laid; len = refl } in
          ap (option_map (λ (l : VmBlock). l.block)) (listed-there medium v s s m is h k.handle tied keeps k.held k.listed b there)

  module _ (name : Name) (there : IsThere s (slot_of name)) where
    pub there-known : model.block_of m name ≡ Some (spelled (store.locks_of s (slot_of name)) (store.bytes_of s (slot_of name)))
    there-known =
        let b = some-block (block_at s (slot_of name)) there in
        block-known name b.0 b.1 ∙ sym (ap (λ o. Some (spelled (store.locks_in o) (store.bytes_in o))) b.1)

    pub chunks-known : model.chunks_at m name ≡ chunks_at s name
    chunks-known = ap model.chunks_in there-known

    pub size-known : model.size_of m name ≡ size_at s name
    size-known = ap model.size_in there-known
