-- What holds of a kernel on its device holds of what its calls see; and a call that does its row
-- answers as its row says.
use Rattle.std.proofs.Common.{◌≡◌, ℕ, None, refl, ap, ◌∙◌, arith, subst, inl, inr}
use Rattle.std.specs.Prelude.{Result}
use Rattle.geos_terms.specs.declared.refusal.Refusal.{Refusal}
use Rattle.geos_calls.specs.Effects.{Call}
use Rattle.geos_calls.specs.Handles.{at_handle}
use Rattle.geos_calls.specs.Memory.{Memory}
use Rattle.geos_calls.specs.VmFile.{VmFile, Kept, Sure, Unsure}
use Rattle.block_handles.specs.Store.{Store, block_at}
use Rattle.vm_file.specs.Device.{Medium, Rose}
use Rattle.vm_file.specs.State.{pair_of}
use Rattle.vm_blocks.specs.DoesRow.{DoesRow}
use Rattle.vm_blocks.specs.FileOf as vm
use Rattle.vm_blocks.specs.FileOf.{IsKeptOf, IsMemoryOf}
use Rattle.vm_blocks.specs.View.{VmState, bytes_read, held_at, vm_slot}
use Rattle.vm_blocks.proofs.Matching.{directory-on, listed-on, pair-on}
use Rattle.geos_kernel.specs.View.{KernelOn, KernelState, core_of, image_seen, kernel_of, memory_of, IsFileOf}
use Rattle.geos_kernel.specs.Kernel.{AnswersWith, Calls, HasRisen, LeavesVm, NeverFell}

-- What is tied to the device is tied to what is seen of it

module _ {D : Type 0} (medium : Medium D) (v : VmState D) (s : Store) where
  -- the device is medium.honest
  abbrev good : Type 0
  good = medium.honest v.file.device

  -- what calls see
  abbrev core : KernelState
  core = core_of medium v s

  kept-seen : (kept : Kept) → IsKeptOf medium.image medium.honest v.file kept → IsKeptOf image_seen (λ d. good) core.vm.file kept
  kept-seen (Sure p) k = k
  kept-seen (Unsure p q) k = k

  kept-known : (kept : Kept) → IsKeptOf image_seen (λ d. good) core.vm.file kept → IsKeptOf medium.image medium.honest v.file kept
  kept-known (Sure p) k = k
  kept-known (Unsure p q) k = k

  pub file-seen : (f : VmFile) → vm.IsFileOf medium.image medium.honest v s f → IsFileOf good core f
  file-seen f is = record {
    area = is.area;
    cur = record {
      handles = is.cur.handles;
      each = is.cur.each;
      map_block = is.cur.map_block;
      map_group =
          is.cur.map_group;
      map_item = is.cur.map_item;
    };
    saved = is.saved;
    kept = kept-seen f.kept is.kept;
    legal = is.legal;
  }

  pub file-known : (f : VmFile) → IsFileOf good core f → vm.IsFileOf medium.image medium.honest v s f
  file-known f is = record {
    area = is.area;
    cur = record {
      handles = is.cur.handles;
      each = is.cur.each;
      map_block = is.cur.map_block;
      map_group =
          is.cur.map_group;
      map_item = is.cur.map_item;
    };
    saved = is.saved;
    kept = kept-known f.kept is.kept;
    legal = is.legal;
  }

  -- the model's memory, where the model knows such a file
  pub memory-known : (f : VmFile) → IsFileOf good core f → IsMemoryOf medium v s (memory_of core f)
  memory-known f is = record { blocks = refl; file = file-known f is; region = refl; handles = refl }

-- If the claim of honesty becomes no stronger

-- a file that the model may know still is one
pub file-on : (A B : Type 0) → (B → A) → (core : KernelState) (f : VmFile) → IsFileOf A core f → IsFileOf B core f
file-on A B more core f is = record {
  area = is.area;
  cur = record {
    handles = is.cur.handles;
    each = λ h p. (let read = bytes_read image_seen core.vm.file h in listed-on A B more read read (held_at core.vm h)
        (block_at core.blocks (vm_slot h)) (at_handle None f.cur.blocks h) (λ b. refl) (is.cur.each h p));
    map_block = is.cur.map_block;
    map_group = is.cur.map_group;
    map_item = is.cur.map_item;
  };
  saved = (let bs = (pair_of image_seen core.vm.file).saved.blocks in directory-on A B more core.vm.file.saved bs bs f.saved (λ b. refl) is.saved);
  kept = on f.kept is.kept;
  legal = is.legal;
}
  where
    on : (kept : Kept) → IsKeptOf image_seen (λ d. A) core.vm.file kept → IsKeptOf image_seen (λ d. B) core.vm.file kept
    on (Sure p) k = (let q = pair_of image_seen core.vm.file in (k.0, pair-on A B more core.vm.file.current core.vm.file.saved q q p (λ b. refl) k.1))
    on (Unsure p q) k = (let r = pair_of image_seen core.vm.file in
        (k.0, pair-on A B more core.vm.file.current core.vm.file.saved r r p (λ b. refl) k.1, λ b. k.2 (more b)))

-- The counts of failures

pub risen : (a b : ℕ) → Rose a b → HasRisen a b
risen a b (inl less) = inl less
risen a b (inr most) = inr (omega (arith, most))

-- Calls

module _ {D : Type 0} (medium : Medium D) {A : Type 0} (call : Call A) (result : Result A Refusal) (v : VmState D)
    (s : Store) (w : VmState D) (t : Store) where
  abbrev old : KernelState
  old = core_of medium v s

  abbrev new : KernelState
  new = core_of medium w t

  same-memory : (n : Memory) → IsMemoryOf medium w t n → n ≡ memory_of new n.file
  same-memory n is = (let blocks = is.blocks in let region = is.region in let handles = is.handles in
      λ k. record { blocks = blocks k; file = n.file; region = region k; handles = handles k })

  -- a call that does its row answers as the row says
  pub row-answers : DoesRow medium call result v s w t → (medium.honest v.file.device → medium.honest w.file.device)
      → NeverFell (medium.honest v.file.device) old new
      → (f : VmFile) → IsFileOf (medium.honest v.file.device) old f → AnswersWith (medium.honest v.file.device) call result old new f
  row-answers row still lasts f tied =
      let b = row (memory_of old f) (memory-known medium v s f tied) in
      record {
        choice = b.0;
        chosen = record { given = b.1.given; device = λ g t. risen (medium.failed v.file.device) (medium.failed w.file.device) (b.1.device g t) };
        lasts = lasts;
        file = b.2.file;
        tied = file-on (medium.honest w.file.device) (medium.honest v.file.device) still new b.2.file (file-seen medium w t b.2.file b.3.file);
        comes = b.4 ∙ ap (λ m. (result, m)) (same-memory b.2 b.3);
      }

  -- and the model knows a file afterwards
  pub row-known : DoesRow medium call result v s w t → (f : VmFile) × vm.IsFileOf medium.image medium.honest v s f
      → (f : VmFile) × vm.IsFileOf medium.image medium.honest w t f
  row-known does (f, is) =
      let b = does (memory_of old f) (record { blocks = refl; file = is; region = refl; handles = refl }) in
      (b.2.file, b.3.file)

-- a call on what is in a kernel is one on the kernel
pub calls-seen : {D A : Type 0} (medium : Medium D) (v : VmState D) (s : Store) (k : KernelOn D) → kernel_of medium v s ≡ k
    → {call : Call A} {r : Result A Refusal} {new : KernelState}
    → Calls (medium.honest v.file.device) call r (core_of medium v s) new → Calls (medium.honest k.device) call r k.core new
calls-seen medium v s k is {call} {r} {new} calls = subst (λ k. Calls (medium.honest k.device) call r k.core new) is calls

-- a call that changes only blocks
pub blocks-alone : {D : Type 0} (medium : Medium D) (v : VmState D) (s t : Store) (k : KernelOn D) → kernel_of medium v s ≡ k
    → LeavesVm k (kernel_of medium v t)
blocks-alone medium v s t k is = record { device = ap (λ k. k.device) is; vm = ap (λ k. k.core.vm) is }
