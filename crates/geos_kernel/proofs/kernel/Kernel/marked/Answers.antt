use Rattle.std.proofs.Common.{◌≡◌, subst, sym, ◌∙◌, ap}
use Rattle.geos_calls.specs.Memory.{is_marked}
use Rattle.geos_calls.specs.VmFile.{VmFile}
use Rattle.vm_blocks.specs.Blocks.{is_marked_in}
use Rattle.vm_blocks.specs.View.{held_at}
use Rattle.geos_kernel.specs.View.{IsFileOf, core_of, memory_of}
use Rattle.geos_kernel.proofs.Seen.{memory-known}
use Rattle.geos_kernel.proofs.kernel.Kernel.marked.Goals as goal

pub returns-clause-mark : goal.returns-clause-mark
returns-clause-mark g c = c.marked.ensures.mark ∙ ap (λ k. is_marked_in (held_at k.core.vm c.args.handle)) c.self.view_is

pub returns-clause-model : goal.returns-clause-model
returns-clause-model g c =
    let v = c.self.inside.vm in
    let blocks = c.self.inside.blocks in
    subst (λ k. (f : VmFile) → IsFileOf (g.D.Device.medium.honest k.device) k.core f → c.marked.result ≡ is_marked (memory_of k.core f) c.args.handle)
    c.self.view_is
    (λ f tied. sym (c.marked.ensures.told blocks (memory_of (core_of g.D.Device.medium v blocks) f) c.self.invariant.tied
    (memory-known g.D.Device.medium v blocks f tied)))
