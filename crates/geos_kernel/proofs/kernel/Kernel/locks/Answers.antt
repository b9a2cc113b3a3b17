use Rattle.std.proofs.Common.{◌≡◌, subst, sym, ◌∙◌, ap}
use Rattle.geos_calls.specs.VmFile.{VmFile}
use Rattle.block_handles.specs.Names.{slot_of}
use Rattle.block_handles.specs.Store as store
use Rattle.geos_calls.specs.Memory.{locks_of}
use Rattle.geos_kernel.specs.View.{IsFileOf, core_of, memory_of}
use Rattle.chunk_calls.proofs.Named.{locks-known}
use Rattle.geos_kernel.proofs.Seen.{memory-known}
use Rattle.geos_kernel.proofs.kernel.Kernel.locks.Goals as goal

pub returns-clause-count : goal.returns-clause-count
returns-clause-count g c = c.locks.ensures ∙ ap (λ k. store.locks_of k.core.blocks (slot_of c.args.name)) c.self.view_is

pub returns-clause-model : goal.returns-clause-model
returns-clause-model g c =
    let v = c.self.inside.vm in
    let blocks = c.self.inside.blocks in
    subst (λ k. (f : VmFile) → IsFileOf (g.D.Device.medium.honest k.device) k.core f → c.locks.result ≡ locks_of (memory_of k.core f) c.args.name)
    c.self.view_is
    (λ f tied. c.locks.ensures ∙ sym (locks-known g.D.Device.medium v blocks c.self.invariant.tied (memory_of (core_of g.D.Device.medium v blocks) f)
    (memory-known g.D.Device.medium v blocks f tied) c.args.name))
