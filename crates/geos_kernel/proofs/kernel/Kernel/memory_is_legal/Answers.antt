use Rattle.std.proofs.Common.{◌≡◌, ℕ, subst}
use Rattle.std.specs.Prelude.{◌↔◌}
use Rattle.geos_terms.specs.Names.{vm}
use Rattle.geos_terms.specs.declared.name.Name.{Name}
use Rattle.block_handles.specs.Names.{slot_of}
use Rattle.block_handles.specs.Store.{IsThere, bytes_of}
use Rattle.block_handles.specs.Store as store
use Rattle.chunk_calls.proofs.Named.{locks-known}
use Rattle.vm_file.specs.Outcomes.{IsHeapUnder}
use Rattle.geos_calls.specs.Memory.{locks_of}
use Rattle.geos_calls.specs.Legal.{IsMemory}
use Rattle.geos_calls.specs.VmFile.{VmFile}
use Rattle.vm_blocks.specs.Listed.{NoneLocked}
use Rattle.geos_kernel.specs.Files.{LeavesKept}
use Rattle.geos_kernel.specs.View.{IsFileOf, core_of, memory_of}
use Rattle.geos_kernel.proofs.Lawful.{memory-legal}
use Rattle.geos_kernel.proofs.Seen.{file-seen, memory-known}
use Rattle.geos_kernel.proofs.Stops.{leaves-kept}
use Rattle.geos_kernel.proofs.Told.{none-known}
use Rattle.geos_kernel.proofs.kernel.Kernel.memory_is_legal.Goals as goal

pub returns-clause-file : goal.returns-clause-file
returns-clause-file g c =
    let f = c.self.invariant.known in
    subst (λ k. (f : VmFile) × IsFileOf (g.D.Device.medium.honest k.device) k.core f) c.self.view_is
    (f.0, file-seen g.D.Device.medium c.self.inside.vm c.self.inside.blocks f.0 f.1)

pub returns-clause-legal : goal.returns-clause-legal
returns-clause-legal g c =
    let v = c.self.inside.vm in
    let blocks = c.self.inside.blocks in
    let region = c.region-region in
    subst (λ k. (f : VmFile) → IsFileOf (g.D.Device.medium.honest k.device) k.core f → IsMemory (memory_of k.core f)) c.self.view_is
    (λ f tied. memory-legal g.D.Device.medium v blocks region.result.now c.self.invariant region.ensures.region region.ensures.bytes
    (memory_of (core_of g.D.Device.medium v blocks) f) (memory-known g.D.Device.medium v blocks f tied))

pub returns-clause-unlocked : goal.returns-clause-unlocked
returns-clause-unlocked g c =
    let v = c.self.inside.vm in
    let blocks = c.self.inside.blocks in
    subst (λ k. (f : VmFile) → IsFileOf (g.D.Device.medium.honest k.device) k.core f → NoneLocked k.core.blocks
    ↔ ((h : ℕ) → locks_of (memory_of k.core f) (vm h) ≡ 0)) c.self.view_is
    (λ f tied. none-known g.D.Device.medium v blocks (memory_of (core_of g.D.Device.medium v blocks) f) c.self.invariant.tied
    (memory-known g.D.Device.medium v blocks f tied))

pub returns-clause-heaps : goal.returns-clause-heaps
returns-clause-heaps g c =
    let K = c.self.invariant in
    subst (λ k. (name : Name) → IsThere k.core.blocks (slot_of name) → IsHeapUnder name.h (bytes_of k.core.blocks (slot_of name))) c.self.view_is
    (λ name there. (K.heaps name there, K.handles name there))

pub returns-clause-kept : goal.returns-clause-kept
returns-clause-kept g c = subst (λ k. LeavesKept g.D.Device.medium k) c.self.view_is
    (leaves-kept g.D.Device.medium c.self.inside.vm c.self.inside.blocks c.is_sure.ensures.kept)

pub returns-clause-locks : goal.returns-clause-locks
returns-clause-locks g c =
    let v = c.self.inside.vm in
    let blocks = c.self.inside.blocks in
    subst (λ k. (f : VmFile) → IsFileOf (g.D.Device.medium.honest k.device) k.core f → (name : Name)
    → locks_of (memory_of k.core f) name ≡ store.locks_of k.core.blocks (slot_of name)) c.self.view_is
    (λ f tied name. locks-known g.D.Device.medium v blocks c.self.invariant.tied (memory_of (core_of g.D.Device.medium v blocks) f)
    (memory-known g.D.Device.medium v blocks f tied) name)
