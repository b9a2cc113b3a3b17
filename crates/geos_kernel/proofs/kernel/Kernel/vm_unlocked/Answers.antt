use Rattle.std.proofs.Common.{◌≡◌, ℕ, subst}
use Rattle.std.specs.Prelude.{◌↔◌, IsTrue}
use Rattle.geos_terms.specs.Names.{vm}
use Rattle.geos_calls.specs.Memory.{locks_of}
use Rattle.geos_calls.specs.VmFile.{VmFile}
use Rattle.vm_blocks.specs.Listed.{NoneLocked}
use Rattle.geos_kernel.specs.View.{IsFileOf, core_of, memory_of}
use Rattle.geos_kernel.proofs.Seen.{memory-known}
use Rattle.geos_kernel.proofs.Told.{none-told}
use Rattle.geos_kernel.proofs.kernel.Kernel.vm_unlocked.Goals as goal

pub returns-clause-locks : goal.returns-clause-locks
returns-clause-locks g c = subst (λ k. IsTrue c.none_locked.result ↔ NoneLocked k.core.blocks) c.self.view_is c.none_locked.ensures

pub returns-clause-model : goal.returns-clause-model
returns-clause-model g c =
    let v = c.self.inside.vm in
    let blocks = c.self.inside.blocks in
    subst (λ k. (f : VmFile) → IsFileOf (g.D.Device.medium.honest k.device) k.core f → IsTrue c.none_locked.result
    ↔ ((h : ℕ) → locks_of (memory_of k.core f) (vm h) ≡ 0)) c.self.view_is
    (λ f tied. none-told g.D.Device.medium v blocks (memory_of (core_of g.D.Device.medium v blocks) f) c.self.invariant.tied
    (memory-known g.D.Device.medium v blocks f tied) c.none_locked.result c.none_locked.ensures)
