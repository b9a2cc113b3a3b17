use Rattle.std.proofs.Common.{◌≡◌, ◌∙◌, ◌+◌, ◌≤◌, length, take, get_or, true, inl, refl, ap, arith, subst}
use Rattle.std.specs.Prelude.{All, Err}
use Rattle.std.proofs.lemmas.List.{take_all}
use Rattle.std.proofs.lemmas.List.Elements.{All-nil, All-more, All-weaker}
use Rattle.block_handles.specs.Store.{locks_of}
use Rattle.vm_blocks.specs.View.{vm_slot}
use Rattle.geos_calls.specs.VmCalls.{vlock}
use Rattle.vm_file.proofs.StateLaws.{steadily_then}
use Rattle.geos_kernel.specs.Files.{vm_file_of}
use Rattle.geos_machine.specs.Lent.{has_block}
use Rattle.geos_machine.specs.Runs.{Throughout}
use Rattle.geos_machine.proofs.Honest.{alike-on}
use Rattle.geos_machine.proofs.Stops.{stops-first}
use Rattle.geos_cli.specs.Script.{IsAllowed, Leads, Locks, times}
use Rattle.geos_cli.proofs.LentLocks.{times-one}
use Rattle.geos_cli.proofs.LentRuns.{stays-leads, on-comes, on-locks}
use Rattle.geos_cli.proofs.lending.lock_all.Goals as goal

pub loop-k-init : goal.loop-k-init
loop-k-init g c = (
  stays-leads (g.D.Device.medium.honest c.args.kernel.now.device) (Throughout g.D.Device.medium c.args.kernel.now.device c.args.kernel.now.device)
      c.args.kernel.now.core
      (λ f tied h. stops-first g.D.Device.medium c.args.kernel.now f tied (g.met.D.Device.at_once c.args.kernel.now.device)
      c.memory_is_legal.ensures.kept h _ (λ x opens. inl opens)),
  (λ n. omega arith),
  All-nil _,
  ((λ h. h), (λ h. h)),
  c.memory_is_legal.ensures.sees,
  (λ steady room. (room, refl)),
)

pub loop-k-preserved : goal.loop-k-preserved
loop-k-preserved g c =
    let medium = g.D.Device.medium in
    let handles = c.args.handles.now in
    let k = c.loop-k.k in
    let so_far = c.loop-k.invariant in (
      on-locks medium c.args.kernel.now c.loop-k.kernel c.lock.new.kernel so_far.3 handles k c.loop-k-test.true so_far.0 c.in_default.ensures.leads,
      (λ n. c.in_default.ensures.counts n ∙ times-one n handles k c.loop-k-test.true (locks_of c.loop-k.kernel.core.blocks (vm_slot n))
          (locks_of c.args.kernel.now.core.blocks (vm_slot n)) (so_far.1 n)),
      All-more (λ h. has_block c.lock.new.kernel.core h ≡ true) handles k 0 c.loop-k-test.true
          (All-weaker (λ h. has_block c.loop-k.kernel.core h ≡ true) (λ h. has_block c.lock.new.kernel.core h ≡ true)
          (λ h there. c.lock.ensures.stay h there) (take k handles) so_far.2) c.in_default.ensures.there,
      alike-on _ _ _ c.lock.ensures.honest so_far.3,
      c.lock.ensures.sees.1,
      steadily_then medium (vm_file_of c.args.kernel.now) (vm_file_of c.loop-k.kernel) (vm_file_of c.lock.new.kernel)
          so_far.5 c.lock.ensures.steadily,
    )

pub returns-in-Err-clause-refused : goal.returns-in-Err-clause-refused
returns-in-Err-clause-refused g c =
    on-comes g.D.Device.medium c.args.kernel.now c.loop-k.kernel c.lock.new.kernel c.loop-k.invariant.3
    (Locks (IsAllowed (g.D.Device.medium.honest c.args.kernel.now.device)) (take c.loop-k.k c.args.handles.now))
    (vlock (get_or c.args.handles.now c.loop-k.k 0)) (Err c.in-Err.refusal) c.loop-k.invariant.0 c.in-Err.ensures.leads

pub returns-clause-locked : goal.returns-clause-locked
returns-clause-locked g c =
    let medium = g.D.Device.medium in
    let old = c.args.kernel.now in
    let past : length c.args.handles.now ≤ c.loop-k.k = omega (arith, c.loop-k-test.false) in
    subst (λ hs. Leads (medium.honest old.device) (Throughout medium old.device c.loop-k.kernel.device) old.core
    c.loop-k.kernel.core (Locks (IsAllowed (medium.honest old.device)) hs))
    (take_all c.loop-k.k c.args.handles.now past) c.loop-k.invariant.0

pub returns-clause-counts : goal.returns-clause-counts
returns-clause-counts g c n =
    let past : length c.args.handles.now ≤ c.loop-k.k = omega (arith, c.loop-k-test.false) in
    c.loop-k.invariant.1 n ∙ ap (λ hs. locks_of c.args.kernel.now.core.blocks (vm_slot n) + times n hs) (take_all c.loop-k.k c.args.handles.now past)

pub returns-clause-there : goal.returns-clause-there
returns-clause-there g c =
    let past : length c.args.handles.now ≤ c.loop-k.k = omega (arith, c.loop-k-test.false) in
    subst (All (λ h. has_block c.loop-k.kernel.core h ≡ true)) (take_all c.loop-k.k c.args.handles.now past) c.loop-k.invariant.2

pub returns-in-Err-clause-honest : goal.returns-in-Err-clause-honest
returns-in-Err-clause-honest g c = alike-on _ _ _ c.lock.ensures.honest c.loop-k.invariant.3

pub returns-in-Err-clause-sees : goal.returns-in-Err-clause-sees
returns-in-Err-clause-sees g c = (c.memory_is_legal.ensures.sees, c.lock.ensures.sees.1)

pub returns-in-Err-clause-steadily : goal.returns-in-Err-clause-steadily
returns-in-Err-clause-steadily g c = steadily_then g.D.Device.medium (vm_file_of c.args.kernel.now) (vm_file_of c.loop-k.kernel)
    (vm_file_of c.lock.new.kernel) c.loop-k.invariant.5 c.lock.ensures.steadily

pub returns-in-Err-clause-fewer : goal.returns-in-Err-clause-fewer
returns-in-Err-clause-fewer g c = λ n. c.in-Err.ensures.same n ∙ c.loop-k.invariant.1 n

pub returns-clause-honest : goal.returns-clause-honest
returns-clause-honest g c = c.loop-k.invariant.3

pub returns-clause-sees : goal.returns-clause-sees
returns-clause-sees g c = (c.memory_is_legal.ensures.sees, c.loop-k.invariant.4)

pub returns-clause-steadily : goal.returns-clause-steadily
returns-clause-steadily g c = c.loop-k.invariant.5
