use Rattle.std.proofs.Common.{subst, sym}
use Rattle.geos_calls.specs.VmCalls as table
use Rattle.vm_blocks.specs.Listed.{NoneLocked}
use Rattle.vm_blocks.specs.ListedCalls.{keeper_of}
use Rattle.vm_blocks.specs.Refused.{of_commit}
use Rattle.geos_kernel.specs.Files.{Commits}
use Rattle.geos_kernel.specs.View.{kernel_of}
use Rattle.geos_kernel.proofs.Listed.{calls-beside}
use Rattle.geos_kernel.proofs.Seen.{calls-seen}
use Rattle.geos_kernel.proofs.Stops.{between-keeping, finds-kept}
use Rattle.geos_kernel.proofs.VmCalls.{committed-lasts, committed-refused, committed-spares, spared-kernel}
use Rattle.geos_kernel.proofs.kernel.Kernel.commit.Goals as goal

pub invariant_of-self : goal.invariant_of-self
invariant_of-self g c =
    let d = g.D.Device in
    let v = c.self.inside.vm in
    let s = c.self.inside.blocks in
    let w = c.commit-done.new.self in
    let t = c.commit-done.new.blocks in
    let r = c.commit-done.result in
    let how = c.args.how in
    let e = c.commit-done.ensures in
    let none : NoneLocked s = subst (λ k. NoneLocked k.core.blocks) (sym c.self.view_is) c.requires in
    spared-kernel d.medium v w s t c.self.invariant (committed-spares v w how s t none r e.commits.store e.commits.refused).beside
    (table.commit (keeper_of how)) (of_commit r) e.tied e.row

pub returns-clause-calls : goal.returns-clause-calls
returns-clause-calls g c =
    let d = g.D.Device in
    let v = c.self.inside.vm in
    let s = c.self.inside.blocks in
    let w = c.commit-done.new.self in
    let t = c.commit-done.new.blocks in
    let r = c.commit-done.result in
    let how = c.args.how in
    let e = c.commit-done.ensures in
    let none : NoneLocked s = subst (λ k. NoneLocked k.core.blocks) (sym c.self.view_is) c.requires in
    let spares = committed-spares v w how s t none r e.commits.store e.commits.refused in
    rw c.of_commit.ensures (calls-seen d.medium v s c.args.self.now c.self.view_is
    (calls-beside d.medium v w s t e.row e.commits.file.stays
    (λ good. committed-lasts v w d.medium.failed r e.commits.file.ok e.commits.file.refused (e.commits.file.cause good)) spares))

pub returns-clause-commits : goal.returns-clause-commits
returns-clause-commits g c =
    let d = g.D.Device in
    let v = c.self.inside.vm in
    let s = c.self.inside.blocks in
    let w = c.commit-done.new.self in
    let t = c.commit-done.new.blocks in
    let r = c.commit-done.result in
    let file = c.commit-done.ensures.commits.file in
    subst (λ k. Commits d.medium c.args.how k (kernel_of d.medium w t) c.of_commit.result) c.self.view_is
    (record {
      answer = r;
      same = c.of_commit.ensures;
      file = file;
      store = c.commit-done.ensures.commits.store;
      between = between-keeping d.medium (kernel_of d.medium v s) (kernel_of d.medium w t) file.either file.stays file.was
          (finds-kept d.medium v s c.is_sure.ensures.found) (finds-kept d.medium w t c.is_sure-2.ensures.found) file.steadily;
      refused = committed-refused v w d.medium s t r c.commit-done.ensures.commits.refused;
    })
