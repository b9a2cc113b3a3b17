-- What a copy between spans makes of the kernel's memory.
use Rattle.std.proofs.Common.{◌≡◌, ℕ, ◌+◌, ◌-◌, ◌<◌, ◌≤◌, List, [], length, take, drop, refl, sym, ap, ◌∙◌, subst, arith, length-take, length-drop}
use Rattle.std.specs.Prelude.{Ok}
use Rattle.std.proofs.lemmas.List.Elements.{All-nil}
use Rattle.lmem_raw.specs.Bytes.{part}
use Rattle.block_handles.specs.Names.{slot_of}
use Rattle.block_handles.specs.Store as store
use Rattle.block_handles.specs.Store.{Store}
use Rattle.block_handles.specs.Change.{with_bytes}
use Rattle.block_handles.specs.Offsets.{WritesCovered, CopiesCovered}
use Rattle.block_handles.proofs.Laws.{with_own}
use Rattle.geos_calls.specs.Legal.{AreBytes}
use Rattle.geos_calls.specs.Memory.{Memory}
use Rattle.geos_calls.specs.Effects.{Reference}
use Rattle.geos_calls.specs.Calls as table
use Rattle.geos_calls.proofs.LegalBytes.{bytes-part}
use Rattle.geos_terms.proofs.Words.{with_nothing}
use Rattle.vm_file.specs.Device.{Medium}
use Rattle.vm_blocks.specs.FileOf.{IsMemoryOf}
use Rattle.vm_blocks.specs.View.{VmState}
use Rattle.geos_kernel.specs.declared.span.Span.{Span}
use Rattle.geos_kernel.specs.View.{KernelOn, KernelState, core_of, kernel_of, MayChange}
use Rattle.geos_kernel.specs.Spans.{IsStanding, IsWritable, Stands}
use Rattle.geos_kernel.specs.Kernel.{IsKernel, Calls}
use Rattle.geos_kernel.proofs.AccessReads.{Lies, has-place, lies, stands-there, first-named}
use Rattle.geos_kernel.proofs.AccessWrites.{written-store, copied-in, stored-kernel, copied-over}

-- a copy of no byte changes nothing
pub nothing-copied : {D : Type 0} (medium : Medium D) (v : VmState D) (s : Store) (to : Span) (target source : Reference) (n : ℕ)
    → IsKernel medium v s → n ≡ 0 → Stands (core_of medium v s) to target
    → Calls (medium.honest v.file.device) (table.copy target source n) (Ok tt) (core_of medium v s) (core_of medium v s)
nothing-copied medium v s to target source n k none t =
    let old = core_of medium v s in
    let there = stands-there medium v s to target t k in
    let place = has-place old to target t in
    let slot = slot_of target.name in
    let fits : 0 + length {A = ℕ} [] ≤ target.len = omega arith in
    let are : AreBytes [] = All-nil (λ b. b < 256) in
    let same : written-store medium v s k target there place 0 [] fits are ≡ s = ap (with_bytes s slot)
    (with_nothing (store.bytes_of s slot) (place.place.at + (target.start + 0))) ∙ with_own s slot in
    let calls : Calls (medium.honest v.file.device) (table.copy target source 0) (Ok tt) old old =
    subst (λ u. Calls (medium.honest v.file.device) (table.copy target source 0) (Ok tt) old (core_of medium v u)) same
    (copied-in medium v s k target there place 0 [] fits are source 0 (λ m is. refl) refl) in
    subst (λ n. Calls (medium.honest v.file.device) (table.copy target source n) (Ok tt) old old) (sym none) calls

module _ {D : Type 0} (medium : Medium D) (v : VmState D) (s t : Store) (k : IsKernel medium v s) (to from : Span) (target source : Reference)
    (x : Stands (core_of medium v s) to target) (y : Stands (core_of medium v s) from source) (n : ℕ) (some : 0 < n)
    (room : n ≤ target.len) (fits : n ≤ source.len) (are : (slot : ℕ) → AreBytes (store.bytes_of s slot))
    (copied : CopiesCovered s t from.at to.at n) where
  abbrev core : Store → KernelState
  core u = core_of medium v u

  abbrev taken : List ℕ
  taken = part (store.bytes_of s (slot_of source.name)) (from.at - store.place_of s (slot_of source.name)) n

  source-lies : Lies (core s) from source
  source-lies = lies (core s) from source y (omega (arith, some, fits))

  is-taken : (m : Memory) → IsMemoryOf medium v s m → taken ≡ take n (table.named_bytes m source)
  is-taken m is = first-named medium v s from source y k m is source-lies n fits

  covered : WritesCovered s t to.at taken
  covered =
      let l = source-lies in
      copied (slot_of source.name) (omega (arith, l.at), omega (arith, l.at, l.within, fits))

  long : length taken ≡ n
  long =
      let l = source-lies in
      let bytes = store.bytes_of s (slot_of source.name) in
      let at = from.at - store.place_of s (slot_of source.name) in
      omega (arith, length-take n (drop at bytes), length-drop at bytes, l.at, l.within, fits)

  taken-bytes : AreBytes taken
  taken-bytes = bytes-part (store.bytes_of s (slot_of source.name)) (from.at - store.place_of s (slot_of source.name)) n (are (slot_of source.name))

  pub copied-kernel : MayChange (core s) target.name → IsKernel medium v t
  copied-kernel = stored-kernel medium v s t k to target x 0 to.at taken (omega (arith, long, room)) (omega (arith, long, some))
      (omega arith) taken-bytes covered

  pub copied-calls : Calls (medium.honest v.file.device) (table.copy target source n) (Ok tt) (core s) (core t)
  copied-calls = copied-over medium v s t k to target x 0 to.at taken (omega (arith, long, room)) (omega (arith, long, some))
      (omega arith) taken-bytes covered source n is-taken refl

-- A copy between valid spans, as calls see the kernel

module _ {D : Type 0} (medium : Medium D) (v : VmState D) (s t : Store) (k : KernelOn D) (is : kernel_of medium v s ≡ k)
    (kernel : IsKernel medium v s) (to from : Span)
    (n : ℕ) (some : 0 < n) (room : n ≤ to.len) (fits : n ≤ from.len) (are : (slot : ℕ) → AreBytes (store.bytes_of s slot))
    (copied : CopiesCovered s t from.at to.at n) where
  -- the blocks still are a kernel's
  pub span-copied : IsWritable k.core to → IsStanding k.core from → IsKernel medium v t
  span-copied writable standing =
      let x = subst (λ k. IsWritable k.core to) (sym is) writable in
      let y = subst (λ k. IsStanding k.core from) (sym is) standing in
      copied-kernel medium v s t kernel to from x.0 y.0 x.1 y.1 n some (omega (arith, room, x.1.len)) (omega (arith, fits, y.1.len)) are copied x.2

  -- and the copy is the row's, whatever the spans stand for
  pub span-copies : (target source : Reference) → Stands k.core to target → Stands k.core from source
      → Calls (medium.honest k.device) (table.copy target source n) (Ok tt) k.core (core_of medium v t)
  span-copies = subst (λ k. (target source : Reference) → Stands k.core to target → Stands k.core from source
      → Calls (medium.honest k.device) (table.copy target source n) (Ok tt) k.core (core_of medium v t)) is
      (λ target source x y. copied-calls medium v s t kernel to from target source x y n some (omega (arith, room, x.len))
      (omega (arith, fits, y.len)) are copied)
