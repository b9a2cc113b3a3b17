-- What calls that change the chunks of a named block make of the kernel.
use Rattle.std.proofs.Common.{◌≡◌, ℕ, Bool, true, false, List, Option, Some, refl, sym, ap, ◌∙◌, arith, subst, inl, inr}
use Rattle.std.specs.Prelude.{Result, Ok, Err}
use Rattle.geos_terms.specs.declared.name.Name.{Name}
use Rattle.geos_terms.specs.declared.refusal.Refusal.{Refusal}
use Rattle.geos_terms.specs.declared.refusal.Refusal.TheVariants.{NoRoom}
use Rattle.geos_terms.specs.Block as block
use Rattle.geos_terms.specs.Chunks.{need}
use Rattle.geos_terms.specs.Edits.{Edit, contract}
use Rattle.geos_terms.specs.Refusals.{first_refusal}
use Rattle.geos_calls.specs.Calls.{lcontract}
use Rattle.geos_calls.specs.Effects.{Call, Choice, InBlock, effect_of}
use Rattle.geos_calls.specs.Legal.{AreBytes}
use Rattle.geos_calls.specs.VmFile.{VmFile}
use Rattle.geos_calls.specs.Memory.{Memory}
use Rattle.block_handles.specs.Names.{slot_of}
use Rattle.block_handles.specs.Store.{Store, bytes_in, bytes_of}
use Rattle.block_handles.specs.Stretch.{HasNoRoom}
use Rattle.block_handles.proofs.Laws.{handle_of_there}
use Rattle.block_handles.proofs.Layouts.{there_of_locks}
use Rattle.vm_file.specs.Device.{Medium}
use Rattle.vm_blocks.specs.DoesRow.{DoesRow}
use Rattle.vm_blocks.specs.Tied.{IsTied}
use Rattle.vm_blocks.specs.View.{VmState}
use Rattle.chunk_calls.specs.Edits.{Carries, Changes, DiscardsAndEdits, Grows}
use Rattle.chunk_calls.specs.Heaps as heaps
use Rattle.chunk_calls.specs.Heaps.{HoldsHeap, chunks_at}
use Rattle.chunk_calls.specs.Others.{IsMarkedIfVm, KeepsOthers}
use Rattle.chunk_calls.proofs.Asking.{AsksNoRoom}
use Rattle.chunk_calls.proofs.Changing.{changes-keeps, others-locked}
use Rattle.chunk_calls.proofs.Kept.{named-tied}
use Rattle.chunk_calls.proofs.Rows.{changes-row}
use Rattle.geos_kernel.specs.View.{IsLocked, KernelOn, core_of, kernel_of, memory_of}
use Rattle.geos_kernel.specs.Spans.{SpansStay}
use Rattle.geos_kernel.specs.Kernel.{Calls, HasNoRoomFor, IsKernel}
use Rattle.geos_kernel.proofs.Named.{other-slot}
use Rattle.geos_kernel.proofs.Rowed.{row-calls}
use Rattle.geos_kernel.proofs.Seen.{row-known}
use Rattle.geos_kernel.proofs.Stays.{kernel-but, stands-same}

-- a block that calls see as locked is there, and holds a heap
pub seen-heap : {D : Type 0} (medium : Medium D) (v : VmState D) (s : Store) (k : KernelOn D) → kernel_of medium v s ≡ k
    → (name : Name) → IsKernel medium v s → IsLocked k.core name → HoldsHeap s name
seen-heap medium v s k is name kernel locked =
    let there = there_of_locks s (slot_of name) (subst (λ k. IsLocked k.core name) (sym is) locked) in
    record { there = there; heap = kernel.heaps name there }

-- One block changed, and others are as they were or were discarded

module _ {D : Type 0} (medium : Medium D) (v : VmState D) (s t : Store) (name : Name) (k : IsKernel medium v s)
    (holds : HoldsHeap s name) (keeps : KeepsOthers v s t name) where
  -- the blocks still are a kernel's
  pub others-kernel : {A : Type 0} (call : Call A) (r : Result A Refusal) → IsTied medium v t → DoesRow medium call r v s v t → IsKernel medium v t
  others-kernel call r tied row =
      kernel-but medium v s t name k keeps.others (handle_of_there s s name refl k.laid holds.there) tied
      (row-known medium call r v s v t row k.known) keeps.heap (keeps.handle ∙ k.handles name holds.there) (omega (arith, keeps.locks, k.few name))

  -- spans in other blocks stay
  pub others-stay : (f : VmFile) → SpansStay (core_of medium v s) (core_of medium v t) f (InBlock name)
  others-stay f span ref st fresh =
      let apart = other-slot s ref.name name k.laid (there_of_locks s (slot_of ref.name) st.locked) holds.there fresh in
      let kept = others-locked v s t name keeps.others (slot_of ref.name) apart st.locked in
      stands-same (core_of medium v s) (core_of medium v t) span ref kept.0 kept.1 st

  pub others-calls : {A : Type 0} (call : Call A) (r : Result A Refusal)
      → ((choice : Choice) (m : Memory) → (effect_of call choice m).stale ≡ InBlock name) → DoesRow medium call r v s v t
      → Calls (medium.honest v.file.device) call r (core_of medium v s) (core_of medium v t)
  others-calls call r stale row = row-calls medium call r v s t row
      (λ f tied choice. subst (SpansStay (core_of medium v s) (core_of medium v t) f) (sym (stale choice (memory_of (core_of medium v s) f)))
      (others-stay f))

-- the chunks of a block were moved together
pub contracted : {D : Type 0} (medium : Medium D) (v : VmState D) (s t : Store) (name : Name) (k : IsKernel medium v s)
    → HoldsHeap s name → Changes contract s t name (Ok tt) → AreBytes (bytes_of t (slot_of name)) → IsMarkedIfVm v name
    → IsKernel medium v t × Calls (medium.honest v.file.device) (lcontract name) (Ok tt) (core_of medium v s) (core_of medium v t)
contracted medium v s t name k holds done are marked =
    let keeps = changes-keeps v contract s t name k.laid holds (Ok tt) done in
    let row = changes-row medium v contract s name k.tied holds t (Ok tt) done are in
    let tied = named-tied medium v s t name k.tied holds.there keeps marked in (
      others-kernel medium v s t name k holds keeps (lcontract name) (Ok tt) tied row,
      others-calls medium v s t name
          k holds keeps (lcontract name) (Ok tt) (λ choice m. refl) row,
    )

-- Lack of room

module _ {D : Type 0} (medium : Medium D) (v : VmState D) {A : Type 0} (edit : List (Option (List ℕ)) → Edit A)
    (s t : Store) (name : Name) (asks : AsksNoRoom edit) where
  same-why : (why : Refusal) → ◌≡◌ {A = Result A Refusal} (Err why) (Err NoRoom) → why ≡ NoRoom
  same-why why e = cc

  no-answer : (answer : A) → ◌≡◌ {A = Result A Refusal} (Ok answer) (Err NoRoom) → ⊥
  no-answer answer e = absurd cc

  -- it refused room, so none is left
  pub comes-no_room : (r : Result A Refusal) → DiscardsAndEdits v edit s t name r → r ≡ Err NoRoom
      → HasNoRoomFor (core_of medium v t) name (edit (chunks_at s name)).chunks
  comes-no_room r c e = record { none = c.none e; no_room = on r c.grows e }
    where
      own : chunks_at c.mid name ≡ chunks_at s name
      own = ap (λ o. block.chunks (bytes_in o)) c.own

      on : (r : Result A Refusal) → Grows edit c.mid t name r → r ≡ Err NoRoom → HasNoRoom t (slot_of name) (need (edit (chunks_at s name)).chunks)
      on (Ok answer) h e = absurd (no-answer answer e)
      on (Err why) (inl refused, same) e =
          absurd (asks (chunks_at c.mid name) (subst (λ w. first_refusal (edit (chunks_at c.mid name)).refusals ≡ Some w) (same-why why e) refused))
      on (Err why) (inr lacks, same) e =
          let room = subst (λ w. heaps.CannotHold w c.mid name (edit (chunks_at c.mid name)).chunks) (same-why why e) lacks.1 in
          subst (λ cs. HasNoRoom t (slot_of name) (need (edit cs).chunks)) own
          (subst (λ u. HasNoRoom u (slot_of name) (need (edit (chunks_at c.mid name)).chunks)) (sym same) room.2)

  pub carries-no_room : (grows : Bool) (r : Result A Refusal) → Carries grows v edit s t name r → r ≡ Err NoRoom
      → HasNoRoomFor (core_of medium v t) name (edit (chunks_at s name)).chunks
  carries-no_room true r h e = comes-no_room r h e
  carries-no_room false r h e = absurd (never r h e)
    where
      never : (r : Result A Refusal) → Changes edit s t name r → r ≡ Err NoRoom → ⊥
      never (Ok answer) h e = no-answer answer e
      never (Err why) h e = asks (chunks_at s name) (subst (λ w. first_refusal (edit (chunks_at s name)).refusals ≡ Some w) (same-why why e) h.0)
