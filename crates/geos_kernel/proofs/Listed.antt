-- What calls on blocks of the file make of the kernel.
use Rattle.std.proofs.Common.{◌≡◌, ◌≢◌, ℕ, ◌<◌, ◌≤◌, Option, Some, None, refl, sym, ap, ◌∙◌, arith, subst, inl, inr}
use Rattle.std.specs.Prelude.{Result}
use Rattle.std.proofs.lemmas.Bool.{cases_eq}
use Rattle.geos_terms.specs.declared.name.Owner.{Owner}
use Rattle.geos_terms.specs.declared.name.Owner.TheVariants.{Mem, Vm}
use Rattle.geos_terms.specs.declared.refusal.Refusal.{Refusal}
use Rattle.geos_terms.specs.Block as block
use Rattle.geos_terms.specs.Heap.{IsHeap}
use Rattle.geos_terms.specs.Names.{mem, named, vm as vm_name}
use Rattle.geos_calls.specs.Effects.{Call, Staleness, effect_of}
use Rattle.geos_calls.specs.VmFile.{VmFile}
use Rattle.block_handles.specs.Layout.{IsLaidOut}
use Rattle.block_handles.specs.Names.{IsHandle, slot_of}
use Rattle.block_handles.specs.Store.{Block, Store, block_at, bytes_in, bytes_of, IsBlock, IsThere, locks_in, locks_of, place_of}
use Rattle.block_handles.proofs.Laws.{handle_of_there}
use Rattle.block_handles.proofs.Layouts.{there_of_locks}
use Rattle.vm_blocks.specs.declared.entries.Held.{Held}
use Rattle.vm_file.specs.Device.{Medium}
use Rattle.vm_file.specs.declared.commit.How.{How}
use Rattle.vm_file.specs.declared.commit.How.TheVariants.{Update, Save, Revert}
use Rattle.vm_blocks.specs.Bring.{Drops, Keeps, LockedMore, NotBrought}
use Rattle.vm_blocks.specs.DoesRow.{DoesRow}
use Rattle.vm_blocks.specs.FileOf as vm
use Rattle.vm_blocks.specs.Listed.{DropsAll, NoneLocked, StoreAfter}
use Rattle.vm_blocks.specs.Room.{Thins}
use Rattle.vm_blocks.specs.Tied.{IsTied, TiedAt}
use Rattle.vm_blocks.specs.View.{VmState, held_at, vm_slot}
use Rattle.vm_blocks.proofs.Slots.{slot-is}
use Rattle.vm_blocks.proofs.Tables.{handle-or}
use Rattle.chunk_calls.proofs.Changing.{goes-free}
use Rattle.chunk_calls.proofs.Kept.{mem-kept}
use Rattle.chunk_calls.proofs.Named.{slot_of-mem, slot_of-past}
use Rattle.chunk_calls.proofs.Rows.{few-named}
use Rattle.geos_kernel.specs.View.{core_of, memory_of}
use Rattle.geos_kernel.specs.Spans.{SpansStay}
use Rattle.geos_kernel.specs.Kernel.{Calls, IsKernel, NeverFell}
use Rattle.geos_kernel.proofs.Seen.{row-answers}
use Rattle.geos_kernel.proofs.Stays.{stands-on, stays-kept, thins-locked}

-- a locked slot keeps its bytes and its place, and stays locked
abbrev pub StaysLocked : Store → Store → ℕ → Type 0
StaysLocked s t slot = 0 < locks_of s slot → (bytes_of t slot ≡ bytes_of s slot) × (0 < locks_of t slot) × (place_of t slot ≡ place_of s slot)

-- each block of global memory is as it was, and so is the region's length
pub record SparesMem (s t : Store) : Type 0 where
  pub mem : (h : ℕ) → IsHandle h → block_at t (slot_of (mem h)) ≡ block_at s (slot_of (mem h))
  pub len : t.len ≡ s.len

-- and each locked slot stays so
pub record Spares (s t : Store) : Type 0 where
  pub beside : SparesMem s t
  pub locked : (slot : ℕ) → StaysLocked s t slot

-- Blocks that stay

-- where nothing has changed
pub same-spares : (s t : Store) → t ≡ s → Spares s t
same-spares s t same = record {
  beside = record { mem = λ h p. ap (λ u. block_at u (slot_of (mem h))) same; len = ap (λ (u : Store). u.len) same };
  locked = λ slot some. (ap (λ u. bytes_of u slot) same, subst (λ u. 0 < locks_of u slot) (sym same) some, ap (λ u. place_of u slot) same);
}

block-stays : (s t : Store) (slot : ℕ) → (block_at t slot ≡ block_at s slot) × (place_of t slot ≡ place_of s slot) → StaysLocked s t slot
block-stays s t slot same some = (ap bytes_in same.0, subst (λ o. 0 < locks_in o) (sym same.0) some, same.1)

-- a slot of global memory is none of a block of the file
pub apart : (h k : ℕ) → IsHandle h → slot_of (mem h) ≢ vm_slot k
apart h k p e = elim (handle-or {X = ℕ} 0 k) [
  | inl q ↦ (let low = slot_of-mem h p in let high = slot-is k q in let some = q.0 in let most = p.1 in omega (arith, low, high, some, most, e))
  | inr past ↦ (let low = slot_of-mem h p in let high = slot_of-past Vm k past in let most = p.1 in omega (arith, low, high, most, e))
]

-- where all others stay
pub keeps-mem : {D : Type 0} (v : VmState D) (s t : Store) (h : ℕ) → Keeps v s t h → SparesMem s t
keeps-mem v s t h keeps = record {
  mem = λ k p. (let low = slot_of-mem k p in let most = p.1 in mem-kept v s t h (slot_of (mem k)) (omega (arith, low, most))
      (keeps.each (slot_of (mem k)) (apart k h p)));
  len = keeps.len;
}

-- and one of the file does, if it is locked
pub keeps-spares : {D : Type 0} (v : VmState D) (s t : Store) (h : ℕ) → Keeps v s t h → StaysLocked s t (vm_slot h) → Spares s t
keeps-spares v s t h keeps own = record {
  beside = keeps-mem v s t h keeps;
  locked = λ slot. elim (cases_eq slot (vm_slot h)) [
    | inl same ↦ subst (StaysLocked s t) (sym same) own
    | inr ne ↦ (λ some. block-stays s t slot (goes-free v s t h slot some (keeps.each slot ne)) some)
  ];
}

pub more-locked : (s t : Store) (h : ℕ) → LockedMore s t h → StaysLocked s t (vm_slot h)
more-locked s t h more some =
    let there = there_of_locks s (vm_slot h) some in
    (more.bytes there, omega (arith, more.locks), more.place there)

pub not-locked : (s t : Store) (h : ℕ) → NotBrought s t h → StaysLocked s t (vm_slot h)
not-locked s t h not some = (same-spares s t (not.stays (there_of_locks s (vm_slot h) some))).locked (vm_slot h) some

-- where one of the file was dropped, which was not locked
pub drops-spares : {D : Type 0} (v : VmState D) (s t : Store) (h : ℕ) → IsLaidOut s → Drops s t h → (0 < locks_of s (vm_slot h) → ⊥) → Spares s t
drops-spares v s t h laid drops free =
    keeps-spares v s t h (record {
      each = λ slot ne. inl (drops.others slot ne, λ some. drops.places slot ne);
      laid =
          drops.laid laid;
      len = drops.len;
    }) (λ some. absurd (free some))

-- where some were discarded
pub thins-spares : {D : Type 0} (v : VmState D) (s t : Store) (but : ℕ) → Thins v s t but → Spares s t
thins-spares v s t but thins = record {
  beside = record {
    mem = λ k p. (let low = slot_of-mem k p in let most = p.1 in mem-kept v s t but (slot_of (mem k)) (omega (arith, low, most))
        (stays-kept v s t but (slot_of (mem k)) (thins.each (slot_of (mem k)))));
    len = thins.len;
  };
  locked = λ slot some. block-stays s t slot (thins-locked v s t but thins slot some) some;
}

-- where all of the file were dropped, none of which was locked
dropped-spares : (s t : Store) → NoneLocked s → DropsAll s t → Spares s t
dropped-spares s t none drops = record {
  beside = record { mem = λ k p. drops.others (slot_of (mem k)) (λ h q. apart k h p); len = drops.len };
  locked = λ slot some. block-stays s t slot (drops.others slot (other slot some), drops.places slot (other slot some)) some;
}
  where
    other : (slot : ℕ) → 0 < locks_of s slot → (h : ℕ) → IsHandle h → slot ≢ vm_slot h
    other slot some h p same = (let free = none h p in let here = ap (locks_of s) same in omega (arith, some, free, here))

-- what a commit leaves
pub commit-spares : (how : How) (s t : Store) → NoneLocked s → StoreAfter how s t → Spares s t
commit-spares Update s t none after = same-spares s t after
commit-spares Save s t none after = same-spares s t after
commit-spares Revert s t none after = dropped-spares s t none after

-- Blocks of a kernel

-- a block of the file in memory is a heap under its handle
tied-heap : {D : Type 0} (medium : Medium D) (w : VmState D) (h : ℕ) (e : Option Held) (b : Option Block)
    → TiedAt medium w.file h e b → IsBlock b → IsHeap (bytes_in b) × (block.handle_word (bytes_in b) ≡ h)
tied-heap medium w h None None t there = absurd there
tied-heap medium w h None (Some b) t there = absurd t
tied-heap medium w h (Some e) None t there = absurd there
tied-heap medium w h (Some e) (Some b) t there = (t.heap, t.handle)

no-locks : (o : Option Block) → (IsBlock o → locks_in o ≤ 65535) → locks_in o ≤ 65535
no-locks None few = omega arith
no-locks (Some b) few = few tt

module _ {D : Type 0} (medium : Medium D) (v w : VmState D) (s t : Store) where
  -- they still are one's where those of global memory are spared
  pub kernel-beside : IsKernel medium v s → IsTied medium w t → SparesMem s t → ((f : VmFile) × vm.IsFileOf medium.image medium.honest w t f)
      → IsKernel medium w t
  kernel-beside k tied spares known = record {
    laid = tied.laid;
    heaps = λ n there. (both n.owner n.h there).0;
    handles = λ n there. (both n.owner n.h there).1;
    few = λ n. counts n.owner n.h;
    tied = tied;
    known = known;
    small = rw spares.len k.small;
  }
    where
      handle : (owner : Owner) (h : ℕ) → IsThere t (slot_of (named owner h)) → IsHandle h
      handle owner h there = handle_of_there t t (named owner h) refl tied.laid there

      both : (owner : Owner) (h : ℕ) → IsThere t (slot_of (named owner h)) → IsHeap (bytes_of t (slot_of (named owner h)))
          × (block.handle_word (bytes_of t (slot_of (named owner h))) ≡ h)
      both Mem h there =
          let is = spares.mem h (handle Mem h there) in
          let before = subst IsBlock is there in
          (subst (λ o. IsHeap (bytes_in o)) (sym is) (k.heaps (mem h) before), ap (λ o. block.handle_word (bytes_in o)) is ∙ k.handles (mem h) before)
      both Vm h there = tied-heap medium w h (held_at w h) (block_at t (vm_slot h)) (tied.each h (handle Vm h there)) there

      counts : (owner : Owner) (h : ℕ) → locks_of t (slot_of (named owner h)) ≤ 65535
      counts Mem h = no-locks (block_at t (slot_of (mem h)))
          (λ there. (let is = spares.mem h (handle Mem h there) in subst (λ o. locks_in o ≤ 65535) (sym is) (k.few (mem h))))
      counts Vm h =
          no-locks (block_at t (vm_slot h)) (λ there. few-named medium w t tied (memory_of (core_of medium w t) known.0)
          (record { blocks = refl; file = known.1; region = refl; handles = refl }) (vm_name h) there refl)

  -- spans stay where the locked blocks do
  pub spans-beside : Spares s t → (f : VmFile) (stale : Staleness) → SpansStay (core_of medium v s) (core_of medium w t) f stale
  spans-beside spares f stale span ref stands fresh =
      let own = spares.locked (slot_of ref.name) stands.locked in
      stands-on (core_of medium v s) (core_of medium w t) span ref own.0 own.1 own.2 stands

  -- a call that does its row
  pub calls-beside : {A : Type 0} {call : Call A} {result : Result A Refusal} → DoesRow medium call result v s w t
      → (medium.honest v.file.device → medium.honest w.file.device)
      → NeverFell (medium.honest v.file.device) (core_of medium v s) (core_of medium w t) → Spares s t
      → Calls (medium.honest v.file.device) call result (core_of medium v s) (core_of medium w t)
  calls-beside {call} {result} row still lasts spares = record {
    answers = row-answers medium call result v s w t row still lasts;
    spans = λ f tied choice. spans-beside spares f (effect_of call choice (memory_of (core_of medium v s) f)).stale;
  }
