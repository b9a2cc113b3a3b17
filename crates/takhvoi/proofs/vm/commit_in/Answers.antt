-- The commit's row and what a stop leaves hold of the kernel that rests after it.
use Rattle.std.proofs.Common.{◌≡◌, [], refl, sym, subst, inl, arith, rules}
use Rattle.geos_calls.specs.VmCalls as table
use Rattle.vm_blocks.specs.ListedCalls.{keeper_of}
use Rattle.geos_kernel.specs.Files.{Between}
use Rattle.geos_kernel.specs.Kernel.{Calls}
use Rattle.geos_kernel.specs.View.{KernelOn}
use Rattle.host_device.specs.Journal.{journal_of, medium}
use Rattle.host_device.specs.declared.device.HostDevice.{HostDevice}
use Rattle.takhvoi.specs.Journal.{IsNoted}
use Rattle.takhvoi.proofs.Notes.{commits-from, goes-between, leads-from, stops-between}
use Rattle.takhvoi.proofs.vm.commit_in.Goals as goal

pub returns : goal.returns
returns c =
    let system = c.args.system.now in
    let old = c.make_room.new.kernel in
    let new = c.commit.new.self in
    let between : Between medium old new = c.commit.ensures.commits.between in
    let known = c.memory_is_legal.ensures.file in
    let same : old ≡ system.kernel = c.make_room.ensures in
    let none : journal_of system.kernel.device ≡ [] = c.is_performed.ensures.none (search rules) in
    let begins : journal_of old.device ≡ [] = subst (λ (k : KernelOn HostDevice). journal_of k.device ≡ []) (sym same) none in
    let answers = c.commit.ensures.calls.answers known.0 known.1 in
    let goes = goes-between old new between known.0 answers.file known.1 answers.tied in (
      refl,
      refl,
      (λ came. inl (commits-from c.args.how c.end-status.result system (record system { kernel = c.rest.new.kernel }) old same (
        (
          c.commit.result,
          subst (λ s. Calls (Unit {0}) (table.commit (keeper_of c.args.how)) c.commit.result old.core s)
              (sym c.rest.ensures.core) c.commit.ensures.calls,
          c.end-status.ensures.status,
        ),
        begins,
        (λ hosted.
            subst (λ (k : KernelOn HostDevice). IsNoted old k) (sym (c.rest.ensures.hosted hosted)) (record {
              leads = leads-from old.device new.device begins goes;
              stops = λ f g was now found left. stops-between old new between f g was now c.memory_is_legal.ensures.kept begins found left;
              between = between;
            })),
        c.rest.ensures.alone,
      ))),
      λ past. absurd (omega (arith, past, c.end-status.ensures.small)),
    )
