-- Spans that stay, and blocks that still are a kernel's.
use Rattle.std.proofs.Common.{◌≡◌, ◌≢◌, ℕ, ◌<◌, ◌≤◌, None, refl, ap, ◌∙◌, subst, sym, ◌⊎◌, arith, inl, inr}
use Rattle.std.proofs.lemmas.Bool.{cases_eq}
use Rattle.geos_terms.specs.declared.name.Name.{Name}
use Rattle.geos_terms.specs.Block as block
use Rattle.geos_calls.specs.VmFile.{VmFile}
use Rattle.geos_calls.specs.Effects.{Reference, Staleness}
use Rattle.geos_terms.specs.Heap.{IsHeap}
use Rattle.block_handles.specs.Names.{IsHandle, slot_of}
use Rattle.block_handles.specs.Store.{Store, block_at, IsBlock, IsThere, bytes_in, bytes_of, locks_in, locks_of, place_of}
use Rattle.block_handles.proofs.Laws.{handle_of_there, same-name}
use Rattle.vm_file.specs.Device.{Medium}
use Rattle.vm_blocks.specs.Bring.{KeptOrGoes}
use Rattle.vm_blocks.specs.FileOf as vm
use Rattle.vm_blocks.specs.Room.{StaysOrGoes, Thins, own_handle}
use Rattle.vm_blocks.specs.Tied.{IsTied}
use Rattle.vm_blocks.specs.View.{VmState}
use Rattle.chunk_calls.specs.Others.{KeepsBut}
use Rattle.chunk_calls.proofs.Changing.{goes-free}
use Rattle.geos_kernel.specs.declared.span.Span.{Span}
use Rattle.geos_kernel.specs.View.{KernelState}
use Rattle.geos_kernel.specs.Spans.{Stands, SpansStay}
use Rattle.geos_kernel.specs.Kernel.{IsKernel}

-- Spans

-- a span stays valid if its block has the same bytes and place, and stays locked
pub stands-on : (old new : KernelState) (span : Span) (ref : Reference)
    → bytes_of new.blocks (slot_of ref.name) ≡ bytes_of old.blocks (slot_of ref.name) → 0 < locks_of new.blocks (slot_of ref.name)
    → place_of new.blocks (slot_of ref.name) ≡ place_of old.blocks (slot_of ref.name) → Stands old span ref → Stands new span ref
stands-on old new span ref bytes locked place s = record {
  bytes = s.bytes;
  locked = locked;
  chunk = rw bytes s.chunk;
  fits = s.fits;
  len = s.len;
  place = λ some. rw (bytes, place) (s.place some);
}

-- where its block is the same, and lies where it lay
pub stands-same : (old new : KernelState) (span : Span) (ref : Reference)
    → block_at new.blocks (slot_of ref.name) ≡ block_at old.blocks (slot_of ref.name)
    → place_of new.blocks (slot_of ref.name) ≡ place_of old.blocks (slot_of ref.name)
    → Stands old span ref → Stands new span ref
stands-same old new span ref same place s = stands-on old new span ref (ap bytes_in same) (subst (λ o. 0 < locks_in o) (sym same) s.locked) place s

-- where nothing has changed, all spans stay
pub spans-same : (old new : KernelState) (f : VmFile) (stale : Staleness) → new.blocks ≡ old.blocks → SpansStay old new f stale
spans-same old new f stale e span ref s fresh = stands-same old new span ref (ap (λ b. block_at b (slot_of ref.name)) e)
    (ap (λ b. place_of b (slot_of ref.name)) e) s

-- Blocks that were discarded

module _ {D : Type 0} (v : VmState D) (s t : Store) (but : ℕ) where
  -- a block that stays or is evicted to make room
  pub stays-kept : (slot : ℕ) → StaysOrGoes v s t but slot → KeptOrGoes v s t but slot
  stays-kept slot (inl same) = inl (same.0, λ some. same.1)
  stays-kept slot (inr goes) = inr goes

  -- a block that is locked stays
  pub thins-locked : Thins v s t but → (slot : ℕ) → 0 < locks_of s slot → (block_at t slot ≡ block_at s slot) × (place_of t slot ≡ place_of s slot)
  thins-locked thins slot locked = goes-free v s t but slot locked (stays-kept slot (thins.each slot))

-- spans stay valid while blocks are discarded
pub thins-stands : {D : Type 0} (v : VmState D) (but : ℕ) (old new : KernelState) (span : Span) (ref : Reference)
    → Thins v old.blocks new.blocks but → Stands old span ref → Stands new span ref
thins-stands v but old new span ref thins s =
    let kept = thins-locked v old.blocks new.blocks but thins (slot_of ref.name) s.locked in
    stands-same old new span ref kept.0 kept.1 s

-- Blocks of a kernel

-- a slot has no block, or the bytes that it had
abbrev pub Same : Store → Store → ℕ → Type 0
Same s t slot = (block_at t slot ≡ None) ⊎ ((bytes_of t slot ≡ bytes_of s slot) × (IsThere t slot → IsThere s slot))

module _ {D : Type 0} (medium : Medium D) (v : VmState D) (s t : Store) (k : IsKernel medium v s) (tied : IsTied medium v t)
    (known : (f : VmFile) × vm.IsFileOf medium.image medium.honest v t f) (len : t.len ≡ s.len) where
  -- blocks still are a kernel's where each slot has the bytes that it had, or none
  pub kernel-on : ((slot : ℕ) → Same s t slot) → ((name : Name) → locks_of t (slot_of name) ≤ 65535) → IsKernel medium v t
  kernel-on same few = record {
    laid = tied.laid;
    few = few;
    tied = tied;
    known = known;
    small = rw len k.small;
    heaps = λ name there. heap name there (same (slot_of name));
    handles = λ name there. handle name there (same (slot_of name));
  }
    where
      heap : (name : Name) → IsThere t (slot_of name) → Same s t (slot_of name) → IsHeap (bytes_of t (slot_of name))
      heap name there (inl none) = absurd (subst IsBlock none there)
      heap name there (inr (bytes, back)) = rw bytes (k.heaps name (back there))

      handle : (name : Name) → (there : IsThere t (slot_of name)) → Same s t (slot_of name) → block.handle_word (bytes_of t (slot_of name)) ≡ name.h
      handle name there (inl none) = absurd (subst IsBlock none there)
      handle name there (inr (bytes, back)) = rw bytes (k.handles name (back there))

-- and where those but one are as they were or were discarded, and that one is a heap under its handle
pub kernel-but : {D : Type 0} (medium : Medium D) (v : VmState D) (s t : Store) (name : Name) → IsKernel medium v s
    → KeepsBut v s t name → IsHandle name.h → IsTied medium v t → ((f : VmFile) × vm.IsFileOf medium.image medium.honest v t f)
    → IsHeap (bytes_of t (slot_of name)) → block.handle_word (bytes_of t (slot_of name)) ≡ name.h
    → locks_of t (slot_of name) ≤ 65535 → IsKernel medium v t
kernel-but {D} medium v s t name k keeps q tied known holds word few =
    record { laid = tied.laid; heaps = heap; handles = handle; few = counts; tied = tied; known = known; small = rw keeps.len k.small }
  where
    other : (n : Name) → IsThere t (slot_of n) → slot_of n ≢ slot_of name → block_at t (slot_of n) ≡ block_at s (slot_of n)
    other n there ne = on (keeps.each (slot_of n) ne)
      where
        on : KeptOrGoes v s t (own_handle name) (slot_of n) → block_at t (slot_of n) ≡ block_at s (slot_of n)
        on (inl u) = u.0
        on (inr g) = absurd (subst IsBlock g.gone there)

    heap : (n : Name) → IsThere t (slot_of n) → IsHeap (bytes_of t (slot_of n))
    heap n there = elim (cases_eq (slot_of n) (slot_of name)) [
      | inl same ↦ subst (λ j. IsHeap (bytes_of t j)) (sym same) holds
      | inr ne ↦ (let is = other n there ne in subst (λ o. IsHeap (bytes_in o)) (sym is) (k.heaps n (subst IsBlock is there)))
    ]

    handle : (n : Name) → IsThere t (slot_of n) → block.handle_word (bytes_of t (slot_of n)) ≡ n.h
    handle n there = elim (cases_eq (slot_of n) (slot_of name)) [
      | inl same ↦ ap (λ j. block.handle_word (bytes_of t j)) same ∙ word
          ∙ ap (λ m. m.h) (same-name name n q (handle_of_there t t n refl tied.laid there) (sym same))
      | inr ne ↦ (let is = other n there ne in ap (λ o. block.handle_word (bytes_in o)) is ∙ k.handles n (subst IsBlock is there))
    ]

    counts : (n : Name) → locks_of t (slot_of n) ≤ 65535
    counts n = elim (cases_eq (slot_of n) (slot_of name)) [
      | inl same ↦ omega (arith, ap (locks_of t) same, few)
      | inr ne ↦ on (keeps.each (slot_of n) ne)
    ]
      where
        on : KeptOrGoes v s t (own_handle name) (slot_of n) → locks_of t (slot_of n) ≤ 65535
        on (inl u) = omega (arith, ap locks_in u.0, k.few n)
        on (inr g) = omega (arith, ap locks_in g.gone)

-- blocks still are a kernel's where some were discarded
pub kernel-thins : {D : Type 0} (medium : Medium D) (v : VmState D) (s t : Store) (but : ℕ) → IsKernel medium v s
    → Thins v s t but → IsTied medium v t
    → ((f : VmFile) × vm.IsFileOf medium.image medium.honest v t f) → IsKernel medium v t
kernel-thins {D} medium v s t but k thins tied known = kernel-on medium v s t k tied known thins.len same counts
  where
    same : (slot : ℕ) → Same s t slot
    same slot = on (thins.each slot)
      where
        on : StaysOrGoes v s t but slot → Same s t slot
        on (inl x) = let is = x.0 in inr (ap bytes_in is, λ there. subst IsBlock is there)
        on (inr g) = inl g.gone

    counts : (name : Name) → locks_of t (slot_of name) ≤ 65535
    counts name = on (thins.each (slot_of name))
      where
        on : StaysOrGoes v s t but (slot_of name) → locks_of t (slot_of name) ≤ 65535
        on (inl x) = omega (arith, ap locks_in x.0, k.few name)
        on (inr g) = omega (arith, ap locks_in g.gone)
