use Rattle.std.proofs.Common.{ℕ, List, subst}
use Rattle.block_handles.specs.Store.{Store}
use Rattle.geos_calls.specs.Memory.{Memory}
use Rattle.vm_file.specs.State.{Finds}
use Rattle.vm_blocks.specs.FileOf.{IsMemoryOf}
use Rattle.vm_blocks.specs.Found.{OpensAsKept}
use Rattle.vm_blocks.proofs.Found.{opens-as-kept}
use Rattle.vm_blocks.proofs.blocks.VmBlocks.is_sure.Goals as goal

pub returns-clause-kept : goal.returns-clause-kept
returns-clause-kept g c =
    let d = g.D.Device in
    let pair = c.is_sure.ensures.pair in
    subst (λ v. (s : Store) (m : Memory) → IsMemoryOf d.medium v s m → d.medium.honest v.file.device → (x : List ℕ)
    → d.medium.may_leave v.file.device x → OpensAsKept m.file.kept x) c.self.view_is
    (λ s m is good x left. opens-as-kept d.medium c.self.inside.file good pair.cur pair.saved m.file.kept x is.file.kept
    (c.is_sure.ensures.stop good x left))

pub returns-clause-found : goal.returns-clause-found
returns-clause-found g c =
    let d = g.D.Device in
    let pair = c.is_sure.ensures.pair in
    subst (λ v. (s : Store) (m : Memory) → IsMemoryOf d.medium v s m → d.medium.honest v.file.device → (x : List ℕ)
    → Finds d.medium.image v.file x → OpensAsKept m.file.kept x) c.self.view_is
    (λ s m is good x finds. opens-as-kept d.medium c.self.inside.file good pair.cur pair.saved m.file.kept x is.file.kept finds)
