use Rattle.std.proofs.Common.{◌∙◌, ap, subst, arith}
use Rattle.std.specs.Prelude.{◌↔◌}
use Rattle.vm_file.proofs.StateLaws.{steadily_then}
use Rattle.geos_kernel.specs.Files.{vm_file_of}
use Rattle.geos_machine.specs.Runs.{Throughout}
use Rattle.geos_machine.proofs.Honest.{alike-on}
use Rattle.geos_cli.specs.Script.{times, IsAllowed, Leads, Unlocks}
use Rattle.geos_cli.proofs.LentRuns.{lent-ran}
use Rattle.geos_cli.proofs.lending.run_lent.Goals as goal

pub unlock_all-requires : goal.unlock_all-requires
unlock_all-requires g c n =
    let lent = c.as_slice.ensures.value ∙ c.in_ok-lent.ensures.handles in
    omega (arith, c.run-outcome.ensures.counts n, c.in_ok-lent.ensures.counts n, ap (times n) lent)

pub returns : goal.returns
returns g c =
    let medium = g.D.Device.medium in
    let old = c.args.kernel.now in
    let locked = c.lock_lent.new.kernel in
    let ran = c.run-outcome.new.kernel in
    let new = c.unlock_all.new.kernel in
    let lent = c.as_slice.ensures.value ∙ c.in_ok-lent.ensures.handles in
    let alike = c.lock_lent.ensures.honest in
    let alike_ran : medium.honest ran.device ↔ medium.honest old.device =
    alike-on _ _ _ c.run-outcome.ensures.honest alike in
    record {
      ran = lent-ran medium old locked ran new alike alike_ran c.args.checked.now c.args.call.now c.run-outcome.result.now
          c.in_ok-lent.ensures.locked c.run-outcome.ensures.ran
          (subst (λ hs. Leads (medium.honest ran.device) (Throughout medium ran.device new.device) ran.core new.core
          (Unlocks (IsAllowed (medium.honest ran.device)) hs)) lent c.unlock_all.ensures.leads);
      refused = tt;
      honest = alike-on _ _ _ c.unlock_all.ensures.honest alike_ran;
      unlocked = λ h handle.
          omega (
            arith,
            c.unlock_all.ensures.counts h,
            c.run-outcome.ensures.counts h,
            c.in_ok-lent.ensures.counts h,
            ap (times h) lent,
          );
      sees = (c.lock_lent.ensures.sees.0, c.unlock_all.ensures.sees.1);
      steadily = steadily_then medium (vm_file_of old) (vm_file_of ran) (vm_file_of new)
          (steadily_then medium (vm_file_of old) (vm_file_of locked) (vm_file_of ran) c.lock_lent.ensures.steadily c.run-outcome.ensures.steadily)
          c.unlock_all.ensures.steadily;
    }
