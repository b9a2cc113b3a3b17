use Rattle.std.proofs.Common.{◌≤◌, length, take, inl, refl, ap, arith, subst}
use Rattle.std.proofs.lemmas.List.{take_all}
use Rattle.block_handles.specs.Store.{locks_of}
use Rattle.vm_blocks.specs.View.{vm_slot}
use Rattle.vm_file.proofs.StateLaws.{steadily_then}
use Rattle.geos_kernel.specs.Files.{vm_file_of}
use Rattle.geos_machine.specs.Runs.{Throughout}
use Rattle.geos_machine.proofs.Honest.{alike-on}
use Rattle.geos_machine.proofs.Stops.{stops-first}
use Rattle.geos_cli.specs.Script.{IsAllowed, Leads, Unlocks, times}
use Rattle.geos_cli.proofs.LentLocks.{times-fewer, times-here, times-one}
use Rattle.geos_cli.proofs.LentRuns.{stays-leads, on-unlocks}
use Rattle.geos_cli.proofs.lending.unlock_all.Goals as goal

pub loop-h-init : goal.loop-h-init
loop-h-init g c = (
  stays-leads (g.D.Device.medium.honest c.args.kernel.now.device) (Throughout g.D.Device.medium c.args.kernel.now.device c.args.kernel.now.device)
      c.args.kernel.now.core
      (λ f tied h. stops-first g.D.Device.medium c.args.kernel.now f tied (g.met.D.Device.at_once c.args.kernel.now.device)
      c.memory_is_legal.ensures.kept h _ (λ x opens. inl opens)),
  (λ n. omega arith),
  c.requires,
  ((λ h. h), (λ h. h)),
  c.memory_is_legal.ensures.sees,
  (λ steady room. (room, refl)),
)

pub unlock-requires : goal.unlock-requires
unlock-requires g c = times-here c.args.handles.now c.loop-h.h-index c.loop-h-test.true _ (c.loop-h.invariant.2 _)

pub loop-h-preserved : goal.loop-h-preserved
loop-h-preserved g c =
    let medium = g.D.Device.medium in
    let handles = c.args.handles.now in
    let k = c.loop-h.h-index in
    let so_far = c.loop-h.invariant in (
      on-unlocks medium c.args.kernel.now c.loop-h.kernel c.unlock.new.kernel so_far.3 handles k c.loop-h-test.true so_far.0 c.unlock.ensures.leads,
      (λ n. omega (
        arith,
        c.unlock.ensures.counts n,
        so_far.1 n,
        times-one n handles k c.loop-h-test.true
            (times n (take k handles)) 0 (omega arith),
      )),
      (λ n. times-fewer n handles k c.loop-h-test.true (locks_of c.unlock.new.kernel.core.blocks (vm_slot n))
          (locks_of c.loop-h.kernel.core.blocks (vm_slot n)) (c.unlock.ensures.counts n) (so_far.2 n)),
      alike-on _ _ _ c.unlock.ensures.honest so_far.3,
      c.unlock.ensures.sees.1,
      steadily_then medium (vm_file_of c.args.kernel.now) (vm_file_of c.loop-h.kernel) (vm_file_of c.unlock.new.kernel)
          so_far.5 c.unlock.ensures.steadily,
    )

pub returns-clause-leads : goal.returns-clause-leads
returns-clause-leads g c =
    let medium = g.D.Device.medium in
    let old = c.args.kernel.now in
    let past : length c.args.handles.now ≤ c.loop-h.h-index = omega (arith, c.loop-h-test.false) in
    subst (λ hs. Leads (medium.honest old.device) (Throughout medium old.device c.loop-h.kernel.device) old.core
    c.loop-h.kernel.core (Unlocks (IsAllowed (medium.honest old.device)) hs))
    (take_all c.loop-h.h-index c.args.handles.now past) c.loop-h.invariant.0

pub returns-clause-counts : goal.returns-clause-counts
returns-clause-counts g c n =
    let past : length c.args.handles.now ≤ c.loop-h.h-index = omega (arith, c.loop-h-test.false) in
    omega (arith, c.loop-h.invariant.1 n, ap (times n) (take_all c.loop-h.h-index c.args.handles.now past))
